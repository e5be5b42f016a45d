use Rattle.std.proofs.Common.{arith}
use Rattle.needs_of_functions.proofs.InTurn.{mapped-next}
use Rattle.needs_of_functions.proofs.results.worker_names.Goals as goal

pub loop-worker-preserved : goal.loop-worker-preserved
loop-worker-preserved c =
    mapped-next (λ w. w.name.name) c.args.workers.now c.loop-worker.worker-index c.worker-item.result _ _ _ (omega arith) c.worker-item.is c.loop-worker.invariant c.share.ensures c.in_ok-push.ensures.items
