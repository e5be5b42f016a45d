use Rattle.inherent_atoms.proofs.Noting.{false-next}
use Rattle.inherent_atoms.proofs.gathered.nothing.Goals as goal

pub loop-preserved : goal.loop-preserved
loop-preserved c = false-next c.loop.marked.items c.push.new.self.items c.in_ok-push.ensures.items c.loop.invariant
