use Rattle.check_work.specs.Views.{unit_of}
use Rattle.needs_of_functions.proofs.Resting.{rest-same}
use Rattle.needs_of_functions.proofs.rests.rest_parameter.Goals as goal

pub returns : goal.returns
returns c = rest-same (unit_of c.args.unit.now) _ c.args.name.now c.args.lists c.args.member c.args.atom c.in_ok-put_parameter.ensures
