use Rattle.std.proofs.Common.{arith}
use Rattle.lower_model.specs.Making.{captured_made}
use Rattle.lower_expr.proofs.Turning.{turn-more}
use Rattle.lower_expr.proofs.lower_expr.captures.Goals as goal

pub loop-c-preserved : goal.loop-c-preserved
loop-c-preserved c =
    turn-more captured_made c.args.captured.now c.loop-c.c-index c.c-item.result _ _ _ (grind (arith, c.loop-c-test.true)) c.c-item.is c.loop-c.invariant c.in_ok-gets.ensures
