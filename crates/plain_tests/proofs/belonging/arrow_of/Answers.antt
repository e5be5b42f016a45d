use Rattle.std.proofs.Common.{◌≡◌, Some, List, length, slice_get, refl, rules, subst, sym}
use Rattle.std.proofs.lemmas.Option.{slice_get_read}
use Rattle.plain_run.specs.declared.facts.UnitFacts.{UnitFacts}
use Rattle.plain_tests.proofs.Units.{arrow_there}
use Rattle.plain_tests.proofs.belonging.arrow_of.Goals as goal

pub returns-in-Some : goal.returns-in-Some
returns-in-Some c =
    let us = c.deref.result.now in
    let u = c.in-Some.u.now in
    let there : slice_get us c.args.unit ≡ Some u = slice_get_read us (length us) c.args.unit u refl (search rules) (search rules) in
    sym (arrow_there c.args.facts.now c.args.unit u (subst (λ (us : List UnitFacts). slice_get us c.args.unit ≡ Some u) c.deref.ensures.value there))
