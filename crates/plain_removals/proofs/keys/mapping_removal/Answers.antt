use Rattle.std.proofs.Common.{◌≡◌, Some, length, refl, subst}
use Rattle.std.specs.Prelude.{slice_get}
use Rattle.std.proofs.lemmas.Option.{slice_get_read}
use Rattle.plain_run.proofs.Given.{if-ok}
use Rattle.plain_removals.proofs.Removing.{mapping-there}
use Rattle.plain_removals.proofs.keys.mapping_removal.Goals as goal

pub returns-in-Some : goal.returns-in-Some
returns-in-Some c =
    let xs = c.deref.result.now in
    let s = c.in-Some.s.now in
    let there : slice_get c.args.heap.now.structures c.args.n ≡ Some s = subst (λ l. slice_get l c.args.n ≡ Some s) c.deref.ensures.value (slice_get_read xs (length xs) c.args.n s refl c.in-Some.ensures.lookup.3.0 c.in-Some.ensures.lookup.1) in
    if-ok _ _ c.removal_from.result (mapping-there c.args.facts.now c.args.heap.now c.args.n s there c.args.key.now) c.removal_from.ensures
