use Rattle.std.proofs.Common.{arith}
use Rattle.input_calls.specs.Calls.{asked, expr_calls}
use Rattle.typed_tree.proofs.Running.{run-more}
use Rattle.input_calls.proofs.calls.+expr.Goals as goal

pub exprs-loop-e-preserved : goal.exprs-loop-e-preserved
exprs-loop-e-preserved t c =
    run-more asked expr_calls c.args.exprs.now c.loop-e.e-index c.e-item.result c.args.before c.loop-e.found c.expr-found.result (grind (arith, c.loop-e-test.true)) c.e-item.is c.loop-e.invariant c.expr-found.ensures
