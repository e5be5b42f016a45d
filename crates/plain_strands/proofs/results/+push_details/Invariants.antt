use Rattle.std.proofs.Common.{length}
use Rattle.plain_strands.proofs.results.+push_details.Given as goal

abbrev pub decreases-push_details : goal.decreases-push_details
decreases-push_details l = length l.results.now
