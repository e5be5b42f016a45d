use Rattle.std.proofs.Common.{arith}
use Rattle.typed_tree.specs.Nodes.{counted, worker_nodes}
use Rattle.typed_tree.proofs.Running.{run-more}
use Rattle.typed_tree.proofs.counting.workers.Goals as goal

pub loop-w-preserved : goal.loop-w-preserved
loop-w-preserved c =
    run-more counted worker_nodes c.args.workers.now c.loop-w.w-index c.w-item.result c.args.before c.loop-w.count c.worker-count.result (grind (arith, c.loop-w-test.true)) c.w-item.is c.loop-w.invariant c.worker-count.ensures
