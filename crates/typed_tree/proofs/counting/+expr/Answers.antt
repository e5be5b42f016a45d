use Rattle.std.proofs.Common.{arith}
use Rattle.typed_tree.specs.Nodes.{counted, expr_nodes}
use Rattle.typed_tree.proofs.Running.{run-more}
use Rattle.typed_tree.proofs.counting.+expr.Goals as goal

pub exprs-loop-e-preserved : goal.exprs-loop-e-preserved
exprs-loop-e-preserved t c =
    run-more counted expr_nodes c.args.exprs.now c.loop-e.e-index c.e-item.result c.args.before c.loop-e.count c.expr-count.result (grind (arith, c.loop-e-test.true)) c.e-item.is c.loop-e.invariant c.expr-count.ensures
