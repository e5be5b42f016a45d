use Rattle.run_cases.proofs.Fronts.{begins}
use Rattle.run_cases.proofs.came.begins_with.Goals as goal

pub returns : goal.returns
returns c = begins c.starts_with.result c.args.text.now c.args.front.now c.starts_with.ensures.value
