use Rattle.std.proofs.Common.{length}
use Rattle.plain_strands.proofs.choices.+last_of.Given as goal

abbrev pub decreases-last_of : goal.decreases-last_of
decreases-last_of l = length l.targets.now
