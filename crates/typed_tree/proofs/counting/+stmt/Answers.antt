use Rattle.std.proofs.Common.{arith}
use Rattle.typed_tree.specs.Nodes.{counted, clause_nodes, stmt_nodes}
use Rattle.typed_tree.proofs.Running.{run-more}
use Rattle.typed_tree.proofs.counting.+stmt.Goals as goal

pub clauses-loop-c-preserved : goal.clauses-loop-c-preserved
clauses-loop-c-preserved t c =
    run-more counted clause_nodes c.args.clauses.now c.loop-c.c-index c.c-item.result c.args.before c.loop-c.count c.clause-count.result (grind (arith, c.loop-c-test.true)) c.c-item.is c.loop-c.invariant c.clause-count.ensures

pub stmts-loop-s-preserved : goal.stmts-loop-s-preserved
stmts-loop-s-preserved t c =
    run-more counted stmt_nodes c.args.stmts.now c.loop-s.s-index c.s-item.result c.args.before c.loop-s.count c.stmt-count.result (grind (arith, c.loop-s-test.true)) c.s-item.is c.loop-s.invariant c.stmt-count.ensures
