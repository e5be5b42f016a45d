use Rattle.std.proofs.Common.{◌∙◌, arith}
use Rattle.isolation_check.specs.Isolated.{initialiser_promises}
use Rattle.isolation_check.proofs.Lists.{joined-more}
use Rattle.isolation_check.proofs.gathering.Gathered.initialisers.Goals as goal

pub loop-i-preserved : goal.loop-i-preserved
loop-i-preserved c = (
  c.in_ok-initialiser.ensures.bodies ∙ c.loop-i.invariant.0,
  joined-more initialiser_promises _ _ _ c.args.is.now c.loop-i.i-index c.i-item.result (grind (arith, c.loop-i-test.true)) c.i-item.is c.loop-i.invariant.1 c.in_ok-initialiser.ensures.promises,
)
