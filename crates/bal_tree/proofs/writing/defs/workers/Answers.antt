use Rattle.std.proofs.Common.{arith}
use Rattle.bal_tree.specs.DefPieces.{worker_pieces}
use Rattle.bal_tree.proofs.Adding.{joined-more}
use Rattle.bal_tree.proofs.writing.defs.workers.Goals as goal

pub loop-w-preserved : goal.loop-w-preserved
loop-w-preserved c =
    joined-more worker_pieces c.args.workers.now c.loop-w.w-index c.w-item.result c.args.out.now c.loop-w.out c.worker.new.out (grind (arith, c.loop-w-test.true)) c.w-item.is c.loop-w.invariant c.worker.ensures
