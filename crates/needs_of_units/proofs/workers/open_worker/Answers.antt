use Rattle.std.proofs.Common.{◌∙◌, subst}
use Rattle.tree_places.specs.UsedInStmts.{used_in_block}
use Rattle.typed_tree.specs.Listed.{members}
use Rattle.check_words.specs.Calls.{captures}
use Rattle.check_words.specs.Sharing.{SameUnit}
use Rattle.check_words.specs.State.{UnitAtWork}
use Rattle.check_words.specs.Units.{worker_unit}
use Rattle.check_words.proofs.Entering.{unit-stands}
use Rattle.check_work.specs.Views.{state_of, unit_of}
use Rattle.check_work.proofs.Noting.{at-hand}
use Rattle.needs_of_units.proofs.Working.{worker-opened}
use Rattle.needs_of_units.proofs.workers.open_worker.Goals as goal

pub returns-clause-stands : goal.returns-clause-stands
returns-clause-stands c = λ env below h.
    let mid = c.in_ok-own.ensures.stands env h in
    c.in_ok-open_unit.ensures.stands env
    (c.in_ok-unit.ensures.below _ below (unit-stands _ mid _ (unit_of c.in_ok-around.around.now) (at-hand _ _ _ c.in_ok-around.ensures)).flow) mid

pub returns-clause-comes : goal.returns-clause-comes
returns-clause-comes c = λ env t same.
    let u : UnitAtWork = unit_of c.in_ok-around.around.now in
    let unit = subst (λ ws. SameUnit (worker_unit c.in_ok-own.own c.args.number t u.flow.reached (captures u.flow.variables ws)) (unit_of c.in_ok-unit.unit))
    (c.as_slice-words.ensures ∙ c.in_ok-uses.ensures) (c.in_ok-unit.ensures.is t same) in
    worker-opened (state_of env c.args.work.now) (state_of env c.new_number.new.work) _ _ u c.in_ok-own.own c.args.number t (members (used_in_block c.args.w.now.body))
    c.in_ok-own.ensures.units (at-hand _ _ _ c.in_ok-around.ensures) (c.in_ok-own.ensures.comes env) (c.in_ok-open_unit.ensures.comes env _ unit)
