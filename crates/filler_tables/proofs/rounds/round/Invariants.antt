use Rattle.filler_tables.proofs.Marking.{AreMarked}
use Rattle.filler_tables.proofs.rounds.round.Given as goal

abbrev pub invariant-loop-a : goal.invariant-loop-a
invariant-loop-a l = AreMarked l.defs l.rows l.marks l.a l.next.items
