use Rattle.std.proofs.Common.{arith}
use Rattle.declared_reads.specs.Declared.{IsDeclaredWorker}
use Rattle.bare_packages.proofs.Changed.{change-more}
use Rattle.bare_packages.proofs.packages.workers.Goals as goal

pub loop-w-preserved : goal.loop-w-preserved
loop-w-preserved c =
    change-more IsDeclaredWorker c.args.ws.now c.loop-w.ws c.loop-w.w-index c.w-item.result c.worker.new.w (omega (arith, c.loop-w.invariant.0.0)) c.loop-w.invariant.0.0 c.loop-w.invariant.0.1 c.loop-w.invariant.1 c.in_ok-worker.ensures
