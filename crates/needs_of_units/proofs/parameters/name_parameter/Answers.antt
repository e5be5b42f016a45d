use Rattle.checks.specs.Checks.{Comes}
use Rattle.checks.proofs.Steps.{stops}
use Rattle.check_words.specs.Calls.{is_new}
use Rattle.check_words.specs.State.{State}
use Rattle.check_words.specs.Units.{names_parameter}
use Rattle.check_words.proofs.Coming.{next}
use Rattle.check_work.specs.Views.{state_of}
use Rattle.needs_of_units.proofs.Answering.{handed-on, made-behind, made-so}
use Rattle.needs_of_units.proofs.parameters.name_parameter.Goals as goal

pub returns-in_err-new_name-clause-comes : goal.returns-in_err-new_name-clause-comes
returns-in_err-new_name-clause-comes c = λ env. let s : State = state_of env c.args.work.now in
    handed-on (λ r. Comes (names_parameter c.args.name.now c.args.assigned) s r s) _ _ c.from_residual.ensures (stops (is_new c.args.name.now) _ s s _ (c.in_err-new_name.ensures env))

pub returns-clause-stands : goal.returns-clause-stands
returns-clause-stands c = λ env h. made-behind _ _ _ c.lift.ensures (c.declare_parameter.ensures.stands env h)

pub returns-clause-comes : goal.returns-clause-comes
returns-clause-comes c = λ env.
    next (is_new c.args.name.now) _ (state_of env c.args.work.now) _ _ tt _ (c.in_ok-new_name.ensures env) (made-so _ _ _ _ _ c.lift.ensures (c.declare_parameter.ensures.comes env))
