use Rattle.std.proofs.Common.{arith}
use Rattle.tree_places.specs.Gathered.{gather}
use Rattle.tree_places.specs.Assigned.{assigned_in_clause, assigned_in_stmt}
use Rattle.typed_tree.proofs.Running.{run-more}
use Rattle.tree_places.proofs.assigned.+stmts.Goals as goal

pub stmts-loop-s-preserved : goal.stmts-loop-s-preserved
stmts-loop-s-preserved t c =
    run-more gather assigned_in_stmt c.args.ss.now c.loop-s.s-index c.s-item.result c.args.names.now.items c.loop-s.names.items c.stmt.new.names.items (grind (arith, c.loop-s-test.true)) c.s-item.is c.loop-s.invariant c.in_ok-stmt.ensures

pub clauses-loop-c-preserved : goal.clauses-loop-c-preserved
clauses-loop-c-preserved t c =
    run-more gather assigned_in_clause c.args.cs.now c.loop-c.c-index c.c-item.result c.args.names.now.items c.loop-c.names.items c.clause.new.names.items (grind (arith, c.loop-c-test.true)) c.c-item.is c.loop-c.invariant c.in_ok-clause.ensures
