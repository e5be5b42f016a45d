use Rattle.std.proofs.Common.{length}
use Rattle.parse_stmt.proofs.ElseStops.{Passed}
use Rattle.parse_stmt.proofs.reader.StmtReader.last_else.Given as goal

abbrev pub invariant-loop-at : goal.invariant-loop-at
invariant-loop-at l = Passed l.self.file l.fn.tokens l.fn.after l.last l.rest

abbrev pub decreases-loop-at : goal.decreases-loop-at
decreases-loop-at l = length l.rest
