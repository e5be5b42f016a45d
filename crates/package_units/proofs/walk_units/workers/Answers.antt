use Rattle.std.proofs.Common.{arith}
use Rattle.typed_tree.specs.Units.{worker_units}
use Rattle.typed_tree.proofs.Running.{run-more}
use Rattle.package_units.specs.Noted.{noted}
use Rattle.package_units.proofs.walk_units.workers.Goals as goal

pub loop-w-preserved : goal.loop-w-preserved
loop-w-preserved c =
    run-more noted worker_units c.args.ws.now c.loop-w.w-index c.w-item.result _ _ _ (grind (arith, c.loop-w-test.true)) c.w-item.is c.loop-w.invariant c.worker.ensures
