use Rattle.std.proofs.Common.{length}
use Rattle.parse_stmt.proofs.actions.+begins_simple.Given as goal

abbrev pub decreases-begins_simple : goal.decreases-begins_simple
decreases-begins_simple l = length l.tokens.now
