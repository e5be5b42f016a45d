use Rattle.std.proofs.Common.{arith}
use Rattle.input_calls.specs.Calls.{asked, clause_calls, stmt_calls}
use Rattle.typed_tree.proofs.Running.{run-more}
use Rattle.input_calls.proofs.calls.+stmt.Goals as goal

pub clauses-loop-c-preserved : goal.clauses-loop-c-preserved
clauses-loop-c-preserved t c =
    run-more asked clause_calls c.args.clauses.now c.loop-c.c-index c.c-item.result c.args.before c.loop-c.found c.clause-found.result (grind (arith, c.loop-c-test.true)) c.c-item.is c.loop-c.invariant c.clause-found.ensures

pub stmts-loop-s-preserved : goal.stmts-loop-s-preserved
stmts-loop-s-preserved t c =
    run-more asked stmt_calls c.args.stmts.now c.loop-s.s-index c.s-item.result c.args.before c.loop-s.found c.stmt-found.result (grind (arith, c.loop-s-test.true)) c.s-item.is c.loop-s.invariant c.stmt-found.ensures
