use Rattle.std.proofs.Common.{length}
use Rattle.plain_strands.proofs.targets.+push_strands.Given as goal

abbrev pub decreases-push_strands : goal.decreases-push_strands
decreases-push_strands l = length l.targets.now
