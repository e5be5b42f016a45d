use Rattle.std.proofs.Common.{◌≡◌, take, true}
use Rattle.std.specs.List.{list_all}
use Rattle.bal_tree.specs.StmtRules.{stmt_is_formed, clause_is_formed}
use Rattle.bal_tree.proofs.checking.stmts.+stmt.Given as goal

abbrev pub invariant-stmts-loop-s : goal.invariant-stmts-loop-s
invariant-stmts-loop-s l = list_all stmt_is_formed (take l.s-index l.stmts) ≡ true

abbrev pub invariant-clauses-loop-c : goal.invariant-clauses-loop-c
invariant-clauses-loop-c l = list_all clause_is_formed (take l.c-index l.clauses) ≡ true
