use Rattle.std.proofs.Common.{◌∙◌, map, subst, Some}
use Rattle.tree_places.specs.UsedInExprs.{used_in_expr}
use Rattle.typed_tree.specs.Listed.{members}
use Rattle.check_words.specs.Calls.{captures, with_captured}
use Rattle.check_words.specs.Sharing.{SameUnit}
use Rattle.check_words.specs.State.{IsLast}
use Rattle.check_work.specs.Views.{state_of, unit_of}
use Rattle.check_work.proofs.Noting.{at-hand}
use Rattle.needs_of_functions.proofs.ValuesBegun.{last-mapped, value-begins, value-stands}
use Rattle.needs_of_functions.proofs.captured.begin_value.Goals as goal

pub returns-clause-stands : goal.returns-clause-stands
returns-clause-stands c = λ env.
    let want = c.in_ok-gives.ensures in
    let kept = map unit_of c.args.work.now.around.items in
    value-stands (state_of env c.args.work.now) kept (unit_of c.in_ok-unit.unit) (unit_of c.in_ok-around.around.now) (at-hand _ _ _ c.in_ok-unit.ensures)
    (subst (λ us. IsLast (map unit_of us) (unit_of c.in_ok-around.around.now)) c.as_slice-units.ensures.value (last-mapped _ _ c.in_ok-around.ensures)) want.0
    (subst (λ ws. IsLast ws (Some want.0)) c.as_slice-wants.ensures.value want.1) c.as_slice-words.result.now (unit_of c.fill_unit.new.unit) (c.in_ok-fill_unit.ensures want.0 want.2)

pub returns-clause-comes : goal.returns-clause-comes
returns-clause-comes c = λ env.
    let want = c.in_ok-gives.ensures in
    let kept = map unit_of c.args.work.now.around.items in
    let u = unit_of c.in_ok-unit.unit in
    let a = unit_of c.in_ok-around.around.now in
    value-begins (state_of env c.args.work.now) kept u a (at-hand _ _ _ c.in_ok-unit.ensures)
    (subst (λ us. IsLast (map unit_of us) a) c.as_slice-units.ensures.value (last-mapped _ _ c.in_ok-around.ensures)) want.0
    (subst (λ ws. IsLast ws (Some want.0)) c.as_slice-wants.ensures.value want.1) (members (used_in_expr c.args.value.now)) (unit_of c.fill_unit.new.unit)
    (subst (λ ws. SameUnit (with_captured (captures a.flow.variables ws) want.0 u) (unit_of c.fill_unit.new.unit)) (c.as_slice-words.ensures ∙ c.in_ok-uses.ensures)
    (c.in_ok-fill_unit.ensures want.0 want.2))
