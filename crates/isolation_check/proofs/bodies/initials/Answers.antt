use Rattle.std.proofs.Common.{arith}
use Rattle.isolation_check.specs.Parts.{initial_parts}
use Rattle.isolation_check.proofs.Growing.{grows-more}
use Rattle.isolation_check.proofs.bodies.initials.Goals as goal

pub loop-i-preserved : goal.loop-i-preserved
loop-i-preserved c =
    grows-more initial_parts c.args.is.now c.loop-i.i-index c.i-item.result _ _ _ (grind (arith, c.loop-i-test.true)) c.i-item.is c.loop-i.invariant c.initial.ensures
