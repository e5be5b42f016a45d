use Rattle.std.proofs.Common.{map, take}
use Rattle.typed_tree.specs.Listed.{joined}
use Rattle.typed_tree.specs.StmtLayers.{of_typed_clause, of_typed_stmt}
use Rattle.worker_pairing.specs.Marks.{marking}
use Rattle.worker_members.specs.inner.Hearing.{Grows}
use Rattle.worker_members.proofs.stmts.+stmt.Given as goal

abbrev pub invariant-stmts-loop-s : goal.invariant-stmts-loop-s
invariant-stmts-loop-s l = Grows l.spot (joined (map (of_typed_stmt marking) (take l.s-index l.ss))) l.fn.heard l.heard

abbrev pub invariant-clauses-loop-c : goal.invariant-clauses-loop-c
invariant-clauses-loop-c l = Grows l.spot (joined (map (of_typed_clause marking) (take l.c-index l.cs))) l.fn.heard l.heard
