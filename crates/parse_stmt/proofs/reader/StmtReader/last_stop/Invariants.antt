use Rattle.std.proofs.Common.{length}
use Rattle.parse_stmt.proofs.StopPlaces.{Walked}
use Rattle.parse_stmt.proofs.reader.StmtReader.last_stop.Given as goal

abbrev pub invariant-loop-after : goal.invariant-loop-after
invariant-loop-after l = Walked l.self.file l.fn.tokens l.stop l.rest

abbrev pub decreases-loop-after : goal.decreases-loop-after
decreases-loop-after l = length l.rest
