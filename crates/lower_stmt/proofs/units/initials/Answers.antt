use Rattle.std.proofs.Common.{arith}
use Rattle.lower_model.specs.Making.{initial_made}
use Rattle.lower_expr.proofs.Turning.{turn-more}
use Rattle.lower_stmt.proofs.units.initials.Goals as goal

pub loop-i-preserved : goal.loop-i-preserved
loop-i-preserved c =
    turn-more initial_made c.args.is.now c.loop-i.i-index c.i-item.result _ _ _ (grind (arith, c.loop-i-test.true)) c.i-item.is c.loop-i.invariant c.in_ok-initial.ensures
