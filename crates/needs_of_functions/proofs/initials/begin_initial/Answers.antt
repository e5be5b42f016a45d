use Rattle.check_work.specs.Views.{state_of}
use Rattle.needs_of_functions.proofs.Initialising.{initial-begins}
use Rattle.needs_of_functions.proofs.initials.begin_initial.Goals as goal

pub returns-clause-stands : goal.returns-clause-stands
returns-clause-stands c = λ env names h. c.in_ok-want_variable.ensures.stands env names (c.in_ok-open_initial.ensures.stands env names.own h)

pub returns-clause-comes : goal.returns-clause-comes
returns-clause-comes c = λ env names.
    initial-begins c.args.names.now c.args.d.now c.args.kept (state_of env c.args.work.now) _ _ (c.in_ok-open_initial.ensures.comes env names.own) (c.in_ok-want_variable.ensures.comes env)
