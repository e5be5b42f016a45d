use Rattle.std.proofs.Common.{arith}
use Rattle.typed_tree.specs.StmtLayers.{of_typed_clause, of_typed_stmt}
use Rattle.isolation_check.specs.Parts.{noting}
use Rattle.isolation_check.proofs.Growing.{grows-more}
use Rattle.isolation_check.proofs.bodies.+stmt.Goals as goal

pub stmts-loop-s-preserved : goal.stmts-loop-s-preserved
stmts-loop-s-preserved t c =
    grows-more (of_typed_stmt noting) c.args.ss.now c.loop-s.s-index c.s-item.result _ _ _ (grind (arith, c.loop-s-test.true)) c.s-item.is c.loop-s.invariant c.stmt.ensures

pub clauses-loop-c-preserved : goal.clauses-loop-c-preserved
clauses-loop-c-preserved t c =
    grows-more (of_typed_clause noting) c.args.cs.now c.loop-c.c-index c.c-item.result _ _ _ (grind (arith, c.loop-c-test.true)) c.c-item.is c.loop-c.invariant c.clause.ensures
