use Rattle.std.proofs.Common.{length}
use Rattle.plain_strands.proofs.results.+push_errors.Given as goal

abbrev pub decreases-push_errors : goal.decreases-push_errors
decreases-push_errors l = length l.results.now
