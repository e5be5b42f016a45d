use Rattle.std.proofs.Common.{length}
use Rattle.plain_strands.proofs.all.+collects.Given as goal

abbrev pub decreases-collects : goal.decreases-collects
decreases-collects l = length l.targets.now
