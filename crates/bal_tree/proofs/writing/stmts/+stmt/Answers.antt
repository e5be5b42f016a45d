use Rattle.std.proofs.Common.{arith}
use Rattle.bal_tree.specs.StmtPieces.{stmt_pieces, clause_pieces}
use Rattle.bal_tree.proofs.Adding.{joined-more}
use Rattle.bal_tree.proofs.writing.stmts.+stmt.Goals as goal

pub stmts-loop-s-preserved : goal.stmts-loop-s-preserved
stmts-loop-s-preserved t c =
    joined-more stmt_pieces c.args.stmts.now c.loop-s.s-index c.s-item.result c.args.out.now c.loop-s.out c.stmt.new.out (grind (arith, c.loop-s-test.true)) c.s-item.is c.loop-s.invariant c.stmt.ensures

pub each_clause-loop-c-preserved : goal.each_clause-loop-c-preserved
each_clause-loop-c-preserved t c =
    joined-more clause_pieces c.args.clauses.now c.loop-c.c-index c.c-item.result c.args.out.now c.loop-c.out c.clause.new.out (grind (arith, c.loop-c-test.true)) c.c-item.is c.loop-c.invariant c.clause.ensures
