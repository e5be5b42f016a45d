use Rattle.std.proofs.Common.{◌≡◌, map, take}
use Rattle.typed_tree.specs.Listed.{joined, run}
use Rattle.tree_places.specs.Gathered.{gather}
use Rattle.tree_places.specs.Assigned.{assigned_in_clause, assigned_in_stmt}
use Rattle.tree_places.proofs.assigned.+stmts.Given as goal

abbrev pub invariant-stmts-loop-s : goal.invariant-stmts-loop-s
invariant-stmts-loop-s l = l.names.items ≡ run gather (joined (map assigned_in_stmt (take l.s-index l.ss))) l.initial.names.items

abbrev pub invariant-clauses-loop-c : goal.invariant-clauses-loop-c
invariant-clauses-loop-c l = l.names.items ≡ run gather (joined (map assigned_in_clause (take l.c-index l.cs))) l.initial.names.items
