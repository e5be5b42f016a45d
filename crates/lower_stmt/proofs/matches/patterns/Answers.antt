use Rattle.std.proofs.Common.{arith}
use Rattle.lower_model.specs.Making.{pattern_made}
use Rattle.lower_expr.proofs.Turning.{turn-more}
use Rattle.lower_stmt.proofs.matches.patterns.Goals as goal

pub loop-p-preserved : goal.loop-p-preserved
loop-p-preserved c =
    turn-more (λ t. pattern_made c.args.own c.args.body t.value) c.args.ps.now c.loop-p.p-index c.p-item.result _ _ _ (grind (arith, c.loop-p-test.true)) c.p-item.is c.loop-p.invariant c.in_ok-pattern.ensures
