use Rattle.std.proofs.Common.{length}
use Rattle.plain_stores.proofs.pushes.+pushes.Given as goal

abbrev pub decreases-pushes : goal.decreases-pushes
decreases-pushes l = length l.values.now
