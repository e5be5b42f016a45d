use Rattle.std.proofs.Common.{arith}
use Rattle.typed_tree.specs.Nodes.{counted, initialiser_nodes}
use Rattle.typed_tree.proofs.Running.{run-more}
use Rattle.typed_tree.proofs.counting.initialisers.Goals as goal

pub loop-i-preserved : goal.loop-i-preserved
loop-i-preserved c =
    run-more counted initialiser_nodes c.args.initialisers.now c.loop-i.i-index c.i-item.result c.args.before c.loop-i.count c.initialiser-count.result (grind (arith, c.loop-i-test.true)) c.i-item.is c.loop-i.invariant c.initialiser-count.ensures
