use Rattle.std.proofs.Common.{length}
use Rattle.plain_strands.proofs.targets.+targets.Given as goal

abbrev pub decreases-targets : goal.decreases-targets
decreases-targets l = length l.names.now
