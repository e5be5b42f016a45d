use Rattle.check_work.specs.Views.{state_of}
use Rattle.needs_of_functions.proofs.Defining.{variable-below}
use Rattle.needs_of_functions.proofs.Initialising.{variable-wanted, wanted-stands}
use Rattle.needs_of_functions.proofs.initials.want_variable.Goals as goal

pub returns-clause-stands : goal.returns-clause-stands
returns-clause-stands c = λ env names h.
    wanted-stands (state_of env c.args.work.now) c.in_ok-want.want _ c.in_ok-push.ensures.items h
    (c.in_ok-want.ensures.below _ (variable-below env c.args.names.now c.args.work.now.site.scope.«module» c.args.d.now.name.name c.in_ok-v.v.0 c.in_ok-v.v.1.now names c.in_ok-v.ensures))

pub returns-clause-comes : goal.returns-clause-comes
returns-clause-comes c = λ env.
    variable-wanted (state_of env c.args.work.now) c.in_ok-want.want _ c.in_ok-push.ensures.items c.args.names.now c.args.d.now c.in_ok-v.v.0 c.in_ok-v.v.1.now c.in_ok-v.ensures
    c.in_ok-want.ensures.is
