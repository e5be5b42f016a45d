use Rattle.std.proofs.Common.{arith, rules}
use Rattle.worker_ranks.proofs.Neighbours.{runs-next}
use Rattle.worker_ranks.proofs.runs.runs.Goals as goal

pub loop-node-preserved : goal.loop-node-preserved
loop-node-preserved c = runs-next c.args.nodes.now c.loop-node.node-index _ (omega arith) (search rules) _ _ c.in_ok-add_node.ensures c.loop-node.invariant
