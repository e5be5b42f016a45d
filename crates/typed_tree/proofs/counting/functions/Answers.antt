use Rattle.std.proofs.Common.{arith}
use Rattle.typed_tree.specs.Nodes.{counted, function_nodes}
use Rattle.typed_tree.proofs.Running.{run-more}
use Rattle.typed_tree.proofs.counting.functions.Goals as goal

pub loop-f-preserved : goal.loop-f-preserved
loop-f-preserved c =
    run-more counted function_nodes c.args.functions.now c.loop-f.f-index c.f-item.result c.args.before c.loop-f.count c.function-count.result (grind (arith, c.loop-f-test.true)) c.f-item.is c.loop-f.invariant c.function-count.ensures
