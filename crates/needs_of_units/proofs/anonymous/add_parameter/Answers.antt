use Rattle.std.proofs.Common.{map}
use Rattle.check_work.specs.Views.{state_of, unit_of}
use Rattle.check_work.proofs.Noting.{at-hand}
use Rattle.needs_of_units.proofs.Beginning.{added-stands, parameter-added}
use Rattle.needs_of_units.proofs.anonymous.add_parameter.Goals as goal

pub returns-clause-stands : goal.returns-clause-stands
returns-clause-stands c = λ env h.
    added-stands (state_of env c.args.work.now) _ c.in_ok-t.t _ c.in_ok-want.ensures c.in_ok-t.ensures (map unit_of c.args.work.now.around.items)
    (unit_of c.in_ok-unit.unit) (at-hand _ _ _ c.in_ok-unit.ensures) c.args.name.now _ c.in_ok-put_parameter.ensures h

pub returns-clause-comes : goal.returns-clause-comes
returns-clause-comes c = λ env.
    parameter-added (state_of env c.args.work.now) _ c.in_ok-t.t _ c.in_ok-want.ensures c.in_ok-t.ensures (map unit_of c.args.work.now.around.items)
    (unit_of c.in_ok-unit.unit) (at-hand _ _ _ c.in_ok-unit.ensures) c.args.name.now _ c.in_ok-put_parameter.ensures
