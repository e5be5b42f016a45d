use Rattle.std.proofs.Common.{length}
use Rattle.plain_strands.proofs.results.+push_results.Given as goal

abbrev pub decreases-push_results : goal.decreases-push_results
decreases-push_results l = length l.names.now
