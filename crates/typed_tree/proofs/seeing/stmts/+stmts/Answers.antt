use Rattle.std.proofs.Common.{arith}
use Rattle.typed_tree.specs.SoFar.{progress}
use Rattle.typed_tree.specs.Skeleton.{clause_sights, see, stmt_sights}
use Rattle.typed_tree.proofs.Running.{run-more}
use Rattle.typed_tree.proofs.seeing.stmts.+stmts.Goals as goal

pub stmts-loop-s-preserved : goal.stmts-loop-s-preserved
stmts-loop-s-preserved t c =
    run-more (see c.args.by.own c.args.by.counts) (stmt_sights c.args.workers.now c.args.by.own) c.args.stmts.now c.loop-s.s-index c.s-item.result (progress c.args.seen.now) (progress c.loop-s.seen) (progress c.stmt.new.seen) (grind (arith, c.loop-s-test.true)) c.s-item.is c.loop-s.invariant c.in_ok-stmt.ensures

pub clauses-loop-c-preserved : goal.clauses-loop-c-preserved
clauses-loop-c-preserved t c =
    run-more (see c.args.by.own c.args.by.counts) (clause_sights c.args.workers.now c.args.by.own) c.args.clauses.now c.loop-c.c-index c.c-item.result (progress c.args.seen.now) (progress c.loop-c.seen) (progress c.clause.new.seen) (grind (arith, c.loop-c-test.true)) c.c-item.is c.loop-c.invariant c.in_ok-clause.ensures
