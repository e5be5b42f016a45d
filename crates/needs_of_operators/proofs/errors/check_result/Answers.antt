use Rattle.std.proofs.Common.{false, length, map, Ok, Err, OnOk, subst, sym}
use Rattle.checks.specs.Checks.{Comes}
use Rattle.check_kinds.specs.Over.{ComesOver}
use Rattle.check_words.specs.Stands.{PartBelow, Stands}
use Rattle.check_words.specs.State.{IsLast}
use Rattle.check_words.specs.Values.{checked}
use Rattle.check_words.proofs.Standing.{last-has, unit-has}
use Rattle.check_work.specs.Views.{state_of, unit_of}
use Rattle.check_work.proofs.Noting.{at-hand, made-comes, made-on}
use Rattle.needs_of_operators.specs.Checked.{errors_fit}
use Rattle.needs_of_operators.proofs.CheckedParts.{errors-fit, errors-refused}
use Rattle.needs_of_operators.proofs.errors.check_result.Goals as goal

pub errors_below-requires-clause-part : goal.errors_below-requires-clause-part
errors_below-requires-clause-part g c =
    last-has (PartBelow (length (g.T.Types.atoms c.args.types.now))) c.args.work.now.found.items c.in-Some.part.now
    (subst (λ xs. IsLast xs c.in-Some.part.now) c.as_slice.ensures.value c.in-Some.ensures) c.requires.found

pub errors_below-requires-clause-wanted : goal.errors_below-requires-clause-wanted
errors_below-requires-clause-wanted g c =
    (unit-has (length (g.T.Types.atoms c.args.types.now)) _ (map unit_of c.args.work.now.around.items) (unit_of c.in_ok-unit.unit.now) (at-hand _ _ _ c.in_ok-unit.ensures) c.requires.units).result

pub returns-in-Ok-clause-stands : goal.returns-in-Ok-clause-stands
returns-in-Ok-clause-stands g c =
    subst (λ env. OnOk c.lift.result (Stands (state_of env c.check_part.new.work))) c.errors_below.ensures.atoms
    (subst (λ r. OnOk r (Stands (state_of (g.T.Types.atoms c.errors_below.new.types) c.check_part.new.work))) (sym c.lift.ensures) (made-on _ c.check_part.result c.check_part.ensures.stands))

pub returns-in-Ok-clause-comes : goal.returns-in-Ok-clause-comes
returns-in-Ok-clause-comes g c =
    let env = g.T.Types.atoms c.args.types.now in
    let s = state_of env c.args.work.now in
    let new = state_of env c.check_part.new.work in
    let u = unit_of c.in_ok-unit.unit.now in
    errors-fit g.T.Types.passes c.args.at s c.in-Some.part.now u (subst (λ xs. IsLast xs c.in-Some.part.now) c.as_slice.ensures.value c.in-Some.ensures)
    (record { kept = map unit_of c.args.work.now.around.items; is = at-hand _ _ _ c.in_ok-unit.ensures }) env c.lift.result new
    (subst (λ o. ComesOver (errors_fit g.T.Types.passes c.in-Some.part.now u.result c.args.at) env (Ok tt) o) c.errors_below.ensures.atoms c.in-Ok.ensures.comes)
    (subst (λ r. Comes (checked false c.args.at) s r new) (sym c.lift.ensures)
    (made-comes (checked false c.args.at) s new c.check_part.result
    (subst (λ o. OnOk c.check_part.result (Comes (checked false c.args.at) (state_of o c.args.work.now) (Ok tt) (state_of o c.check_part.new.work))) c.errors_below.ensures.atoms c.check_part.ensures.comes)))

pub returns-in-Err-clause-comes : goal.returns-in-Err-clause-comes
returns-in-Err-clause-comes g c =
    let env = g.T.Types.atoms c.args.types.now in
    let u = unit_of c.in_ok-unit.unit.now in
    errors-refused g.T.Types.passes c.args.at (state_of env c.args.work.now) c.in-Some.part.now u (subst (λ xs. IsLast xs c.in-Some.part.now) c.as_slice.ensures.value c.in-Some.ensures)
    (record { kept = map unit_of c.args.work.now.around.items; is = at-hand _ _ _ c.in_ok-unit.ensures }) env c.in-Err.stop
    (subst (λ o. ComesOver (errors_fit g.T.Types.passes c.in-Some.part.now u.result c.args.at) env (Err c.in-Err.stop) o) c.errors_below.ensures.atoms c.in-Err.ensures.comes)
