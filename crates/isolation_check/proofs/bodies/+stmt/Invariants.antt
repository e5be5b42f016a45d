use Rattle.std.proofs.Common.{map, take}
use Rattle.typed_tree.specs.Listed.{joined}
use Rattle.typed_tree.specs.StmtLayers.{of_typed_clause, of_typed_stmt}
use Rattle.isolation_check.specs.Parts.{noting}
use Rattle.isolation_check.specs.inner.Views.{Grows}
use Rattle.isolation_check.proofs.bodies.+stmt.Given as goal

abbrev pub invariant-stmts-loop-s : goal.invariant-stmts-loop-s
invariant-stmts-loop-s l = Grows (joined (map (of_typed_stmt noting) (take l.s-index l.ss))) l.fn.found l.found

abbrev pub invariant-clauses-loop-c : goal.invariant-clauses-loop-c
invariant-clauses-loop-c l = Grows (joined (map (of_typed_clause noting) (take l.c-index l.cs))) l.fn.found l.found
