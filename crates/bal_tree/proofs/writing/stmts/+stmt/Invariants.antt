use Rattle.std.proofs.Common.{map, take}
use Rattle.bal_tree.specs.Pieces.{joined}
use Rattle.bal_tree.specs.Writing.{Writes}
use Rattle.bal_tree.specs.StmtPieces.{stmt_pieces, clause_pieces}
use Rattle.bal_tree.proofs.writing.stmts.+stmt.Given as goal

abbrev pub invariant-stmts-loop-s : goal.invariant-stmts-loop-s
invariant-stmts-loop-s l = Writes l.initial.out (joined (map stmt_pieces (take l.s-index l.stmts))) l.out

abbrev pub invariant-each_clause-loop-c : goal.invariant-each_clause-loop-c
invariant-each_clause-loop-c l = Writes l.initial.out (joined (map clause_pieces (take l.c-index l.clauses))) l.out
