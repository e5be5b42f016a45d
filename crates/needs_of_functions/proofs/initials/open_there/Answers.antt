use Rattle.check_work.specs.Views.{state_of, unit_of}
use Rattle.needs_of_functions.proofs.Initialising.{opens-there, there-below}
use Rattle.needs_of_functions.proofs.initials.open_there.Goals as goal

pub returns-clause-stands : goal.returns-clause-stands
returns-clause-stands c = λ env h.
    let i = c.in_ok-unit.ensures in
    c.in_ok-open_unit.ensures.stands env (there-below (state_of env c.args.work.now) h i.0 (unit_of c.in_ok-unit.unit) i.1 i.2) h

pub returns-clause-comes : goal.returns-clause-comes
returns-clause-comes c = λ env.
    let i = c.in_ok-unit.ensures in
    opens-there c.args.kept (state_of env c.args.work.now) _ i.0 i.1 (c.in_ok-open_unit.ensures.comes env i.0.unit i.2)
