use Rattle.std.proofs.Common.{◌+◌, ◌*◌, length}
use Rattle.parse_stmt.proofs.reader.StmtReader.+sync.Given as goal

abbrev pub decreases-sync_send : goal.decreases-sync_send
decreases-sync_send l = 2 * length l.tokens.now

abbrev pub decreases-worded_sync : goal.decreases-worded_sync
decreases-worded_sync l = 2 * length l.tokens.now + 1
