use Rattle.std.proofs.Common.{◌≡◌, map, take}
use Rattle.typed_tree.specs.Listed.{run, joined}
use Rattle.typed_tree.specs.Nodes.{counted, clause_nodes, stmt_nodes}
use Rattle.typed_tree.proofs.counting.+stmt.Given as goal

abbrev pub invariant-clauses-loop-c : goal.invariant-clauses-loop-c
invariant-clauses-loop-c l = l.count ≡ run counted (joined (map clause_nodes (take l.c-index l.clauses))) l.before

abbrev pub invariant-stmts-loop-s : goal.invariant-stmts-loop-s
invariant-stmts-loop-s l = l.count ≡ run counted (joined (map stmt_nodes (take l.s-index l.stmts))) l.before
