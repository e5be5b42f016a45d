use Rattle.std.proofs.Common.{arith}
use Rattle.typed_tree.specs.StmtLayers.{of_typed_clause, of_typed_stmt}
use Rattle.typed_tree.specs.Units.{listing}
use Rattle.typed_tree.proofs.Running.{run-more}
use Rattle.package_units.specs.Noted.{noted}
use Rattle.package_units.proofs.walk_stmts.+stmt.Goals as goal

pub stmts-loop-s-preserved : goal.stmts-loop-s-preserved
stmts-loop-s-preserved t c =
    run-more noted (of_typed_stmt listing) c.args.ss.now c.loop-s.s-index c.s-item.result _ _ _ (grind (arith, c.loop-s-test.true)) c.s-item.is c.loop-s.invariant c.stmt.ensures

pub clauses-loop-c-preserved : goal.clauses-loop-c-preserved
clauses-loop-c-preserved t c =
    run-more noted (of_typed_clause listing) c.args.cs.now c.loop-c.c-index c.c-item.result _ _ _ (grind (arith, c.loop-c-test.true)) c.c-item.is c.loop-c.invariant c.clause.ensures
