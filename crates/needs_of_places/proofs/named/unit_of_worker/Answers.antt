use Rattle.std.proofs.Common.{◌∙◌, arith}
use Rattle.needs_of_places.proofs.Crews.{worker-behind}
use Rattle.needs_of_places.proofs.named.unit_of_worker.Goals as goal

pub returns : goal.returns
returns c = c.named_unit.ensures ∙ worker-behind c.args.own c.args.function.now.workers c.args.worker (omega arith)
