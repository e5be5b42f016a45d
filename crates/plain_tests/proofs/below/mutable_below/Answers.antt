use Rattle.std.proofs.Common.{◌≡◌, Some, length, slice_get, refl, rules}
use Rattle.std.proofs.lemmas.Option.{slice_get_read}
use Rattle.plain_run.proofs.Given.{if-ok}
use Rattle.plain_tests.specs.Own.{TellsMutable, TellsSub}
use Rattle.plain_tests.proofs.OwnTypes.{mutable_told}
use Rattle.plain_tests.proofs.below.mutable_below.Goals as goal

pub returns-in_ok-s-in-Some : goal.returns-in_ok-s-in-Some
returns-in_ok-s-in-Some c =
    let env = c.args.env.now in
    let a = c.args.a in
    let t = c.args.t.now in
    let d = c.in-Some.def.now in
    let s = c.in_ok-s-in-Some.s in
    let there : slice_get env a ≡ Some d = slice_get_read env (length env) a d refl (search rules) (search rules) in
    if-ok (TellsSub env s t) (TellsMutable env a t) c.is_below.result (λ told is. mutable_told env a d s t told there c.in_ok-s-in-Some.ensures is) c.is_below.ensures
