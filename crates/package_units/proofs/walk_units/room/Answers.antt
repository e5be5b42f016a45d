use Rattle.package_units.proofs.Meeting.{room-next}
use Rattle.package_units.proofs.walk_units.room.Goals as goal

pub loop-preserved : goal.loop-preserved
loop-preserved c = room-next c.loop.units.items c.push.new.self.items c.loop.counter c.in_ok-push.ensures.items c.loop.invariant
