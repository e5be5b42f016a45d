use Rattle.std.proofs.Common.{length}
use Rattle.plain_strands.proofs.results.+missing.Given as goal

abbrev pub decreases-missing : goal.decreases-missing
decreases-missing l = length l.results.now
