use Rattle.std.proofs.Common.{arith}
use Rattle.isolation_check.specs.Parts.{of_body}
use Rattle.isolation_check.proofs.Growing.{grows-more}
use Rattle.isolation_check.proofs.bodies.operands.Goals as goal

pub loop-e-preserved : goal.loop-e-preserved
loop-e-preserved c =
    grows-more of_body c.args.es.now c.loop-e.e-index c.e-item.result _ _ _ (grind (arith, c.loop-e-test.true)) c.e-item.is c.loop-e.invariant c.part.ensures
