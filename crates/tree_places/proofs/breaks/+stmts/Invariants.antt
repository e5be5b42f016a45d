use Rattle.std.proofs.Common.{◌≡◌, take, false}
use Rattle.std.specs.List.{list_any}
use Rattle.tree_places.specs.Breaks.{clause_breaks, stmt_breaks}
use Rattle.tree_places.proofs.breaks.+stmts.Given as goal

abbrev pub invariant-stmts-loop-s : goal.invariant-stmts-loop-s
invariant-stmts-loop-s l = list_any stmt_breaks (take l.s-index l.ss) ≡ false

abbrev pub invariant-clauses-loop-c : goal.invariant-clauses-loop-c
invariant-clauses-loop-c l = list_any clause_breaks (take l.c-index l.cs) ≡ false
