use Rattle.std.proofs.Common.{map}
use Rattle.check_work.specs.Views.{state_of, unit_of}
use Rattle.check_work.proofs.Noting.{at-hand}
use Rattle.needs_of_functions.proofs.Resting.{rest-put, rest-stands}
use Rattle.needs_of_functions.proofs.rests.put_rest.Goals as goal

pub returns-clause-stands : goal.returns-clause-stands
returns-clause-stands c = λ env lt below h.
    rest-stands (state_of env c.args.work.now) (map unit_of c.args.work.now.around.items) (unit_of c.in_ok-unit.unit) (at-hand _ _ _ c.in_ok-unit.ensures) c.args.name.now
    c.in_ok-lists.lists c.args.member c.args.atom c.in_ok-lists.ensures _ c.in_ok-rest_parameter.ensures lt below h

pub returns-clause-comes : goal.returns-clause-comes
returns-clause-comes c = λ env.
    rest-put (state_of env c.args.work.now) (map unit_of c.args.work.now.around.items) (unit_of c.in_ok-unit.unit) (at-hand _ _ _ c.in_ok-unit.ensures) c.args.name.now
    c.in_ok-lists.lists c.args.member c.args.atom c.in_ok-lists.ensures _ c.in_ok-rest_parameter.ensures
