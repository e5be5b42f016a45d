use Rattle.std.proofs.Common.{arith}
use Rattle.typed_tree.specs.Nodes.{counted, initial_nodes}
use Rattle.typed_tree.proofs.Running.{run-more}
use Rattle.typed_tree.proofs.counting.initials.Goals as goal

pub loop-i-preserved : goal.loop-i-preserved
loop-i-preserved c =
    run-more counted initial_nodes c.args.initials.now c.loop-i.i-index c.i-item.result c.args.before c.loop-i.count c.initial-count.result (grind (arith, c.loop-i-test.true)) c.i-item.is c.loop-i.invariant c.initial-count.ensures
