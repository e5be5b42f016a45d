use Rattle.std.proofs.Common.{arith}
use Rattle.lower_model.specs.Making.{expr_made}
use Rattle.lower_expr.proofs.Turning.{turn-more}
use Rattle.lower_expr.proofs.lower_expr.+expr.Goals as goal

pub exprs-loop-e-preserved : goal.exprs-loop-e-preserved
exprs-loop-e-preserved t c =
    turn-more expr_made c.args.es.now c.loop-e.e-index c.e-item.result _ _ _ (grind (arith, c.loop-e-test.true)) c.e-item.is c.loop-e.invariant c.in_ok-expr.ensures
