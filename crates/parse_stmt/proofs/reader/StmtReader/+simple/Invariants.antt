use Rattle.std.proofs.Common.{◌+◌, ◌*◌, length}
use Rattle.parse_stmt.proofs.reader.StmtReader.+simple.Given as goal

abbrev pub decreases-simple : goal.decreases-simple
decreases-simple l = 2 * length l.tokens.now

abbrev pub decreases-worded : goal.decreases-worded
decreases-worded l = 2 * length l.tokens.now + 1
