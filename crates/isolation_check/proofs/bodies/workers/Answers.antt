use Rattle.std.proofs.Common.{arith}
use Rattle.isolation_check.specs.Parts.{worker_parts}
use Rattle.isolation_check.proofs.Growing.{grows-more}
use Rattle.isolation_check.proofs.bodies.workers.Goals as goal

pub loop-w-preserved : goal.loop-w-preserved
loop-w-preserved c =
    grows-more worker_parts c.args.ws.now c.loop-w.w-index c.w-item.result _ _ _ (grind (arith, c.loop-w-test.true)) c.w-item.is c.loop-w.invariant c.worker.ensures
