use Rattle.std.proofs.Common.{map, take}
use Rattle.typed_tree.specs.Listed.{joined}
use Rattle.typed_tree.specs.StmtLayers.{of_typed_clause, of_typed_stmt}
use Rattle.worker_pairing.specs.Marks.{marking}
use Rattle.event_search.specs.inner.Walking.{Goes}
use Rattle.event_search.proofs.stmts.+stmt.Given as goal

abbrev pub invariant-stmts-loop-s : goal.invariant-stmts-loop-s
invariant-stmts-loop-s l = Goes l.initial' (joined (map (of_typed_stmt marking) (take l.s-index l.ss))) l.fn.search l.search

abbrev pub invariant-clauses-loop-c : goal.invariant-clauses-loop-c
invariant-clauses-loop-c l = Goes l.initial' (joined (map (of_typed_clause marking) (take l.c-index l.cs))) l.fn.search l.search
