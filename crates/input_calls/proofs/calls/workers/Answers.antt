use Rattle.std.proofs.Common.{arith}
use Rattle.input_calls.specs.Calls.{asked, worker_calls}
use Rattle.typed_tree.proofs.Running.{run-more}
use Rattle.input_calls.proofs.calls.workers.Goals as goal

pub loop-w-preserved : goal.loop-w-preserved
loop-w-preserved c =
    run-more asked worker_calls c.args.workers.now c.loop-w.w-index c.w-item.result c.args.before c.loop-w.found c.worker-found.result (grind (arith, c.loop-w-test.true)) c.w-item.is c.loop-w.invariant c.worker-found.ensures
