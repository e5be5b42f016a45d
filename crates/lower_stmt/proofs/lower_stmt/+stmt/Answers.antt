use Rattle.std.proofs.Common.{arith, option_map}
use Rattle.lower_stmt.specs.Turning.{turns_of}
use Rattle.lower_stmt.proofs.StmtsTurning.{clauses-more, stmts-more}
use Rattle.lower_stmt.proofs.lower_stmt.+stmt.Goals as goal

pub stmts-loop-s-preserved : goal.stmts-loop-s-preserved
stmts-loop-s-preserved t c =
    stmts-more (option_map turns_of c.args.around) c.args.ss.now c.loop-s.s-index c.s-item.result _ _ _ (grind (arith, c.loop-s-test.true)) c.s-item.is c.loop-s.invariant c.in_ok-stmt.ensures

pub clauses-loop-c-preserved : goal.clauses-loop-c-preserved
clauses-loop-c-preserved t c =
    clauses-more c.args.own c.args.end (option_map turns_of c.args.around) c.args.cs.now c.loop-c.c-index c.c-item.result _ _ _ (grind (arith, c.loop-c-test.true)) c.c-item.is c.loop-c.invariant c.in_ok-clause.ensures
