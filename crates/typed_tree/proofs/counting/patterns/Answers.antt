use Rattle.std.proofs.Common.{arith}
use Rattle.typed_tree.specs.Nodes.{counted, pattern_nodes}
use Rattle.typed_tree.proofs.Running.{run-more}
use Rattle.typed_tree.proofs.counting.patterns.Goals as goal

pub loop-p-preserved : goal.loop-p-preserved
loop-p-preserved c =
    run-more counted pattern_nodes c.args.patterns.now c.loop-p.p-index c.p-item.result c.args.before c.loop-p.count c.pattern-count.result (grind (arith, c.loop-p-test.true)) c.p-item.is c.loop-p.invariant c.pattern-count.ensures
