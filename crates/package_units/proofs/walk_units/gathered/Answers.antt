use Rattle.std.proofs.Common.{arith}
use Rattle.package_units.proofs.Meeting.{gathered-next}
use Rattle.package_units.proofs.walk_units.gathered.Goals as goal

pub loop-unit-preserved : goal.loop-unit-preserved
loop-unit-preserved c =
    gathered-next c.args.met.now c.loop-unit.unit-index c.unit-item.result c.loop-unit.units.items c.push.new.self.items _ (grind (arith, c.loop-unit-test.true)) c.unit-item.is c.in_ok-push-in-Some.ensures.items c.loop-unit.invariant c.in-Some.is
