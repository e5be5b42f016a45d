use Rattle.std.proofs.Common.{map}
use Rattle.check_work.specs.Views.{state_of, unit_of}
use Rattle.check_work.proofs.Noting.{at-hand}
use Rattle.needs_of_units.proofs.Naming.{parameter-comes, parameter-stands}
use Rattle.needs_of_units.proofs.parameters.declare_parameter.Goals as goal

pub returns-clause-stands : goal.returns-clause-stands
returns-clause-stands c = λ env h.
    parameter-stands (state_of env c.args.work.now) (map unit_of c.args.work.now.around.items) (unit_of c.in_ok-unit.unit) (at-hand _ _ _ c.in_ok-unit.ensures) c.args.name.now
    c.args.assigned c.in_ok-variable.variable c.in_ok-variable.ensures _ c.in_ok-declare.ensures h

pub returns-clause-comes : goal.returns-clause-comes
returns-clause-comes c = λ env.
    parameter-comes (state_of env c.args.work.now) (map unit_of c.args.work.now.around.items) (unit_of c.in_ok-unit.unit) (at-hand _ _ _ c.in_ok-unit.ensures) c.args.name.now
    c.args.assigned c.in_ok-variable.variable c.in_ok-variable.ensures _ c.in_ok-declare.ensures
