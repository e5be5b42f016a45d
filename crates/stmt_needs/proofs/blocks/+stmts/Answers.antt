use Rattle.std.proofs.Common.{arith, length, rules, subst, ◌<◌, ◌≤◌}
use Rattle.needs.specs.Needs.{Runs}
use Rattle.needs.proofs.Running.{runs-more}
use Rattle.stmt_needs.specs.PackageTable.{in_part, within}
use Rattle.stmt_needs.specs.StmtTable.{read_clause, read_stmt}
use Rattle.stmt_needs.proofs.Walking.{all-met, before_these, next-met, none-met}
use Rattle.stmt_needs.proofs.blocks.+stmts.Goals as goal

pub stmts-loop-i-init : goal.stmts-loop-i-init
stmts-loop-i-init g t c = record { stands = c.requires; met = none-met _ (in_part c.args.in_loop c.args.workers.now c.args.rest.now) c.args.ss.now _ }

pub stmts-loop-i-preserved : goal.stmts-loop-i-preserved
stmts-loop-i-preserved g t c =
    let w = in_part c.args.in_loop c.args.workers.now c.args.rest.now in
    let x = c.index-ss-i.result in
    let lt : c.loop-i.i < length c.args.ss.now = search rules in
    record {
      stands = c.stmt.ensures.stands;
      met = next-met _ w c.args.ss.now c.loop-i.i x _ _ _ lt c.index-ss-i.is c.loop-i.invariant.met
          (subst (λ ss. Runs g.M.MeetsExprs.meaning ((read_stmt x).needs (before_these w ss)) (g.M.MeetsExprs.going c.loop-i.work) (g.M.MeetsExprs.going c.stmt.new.work))
          c.behind.ensures c.stmt.ensures.met);
    }

pub stmts-returns-clause-met : goal.stmts-returns-clause-met
stmts-returns-clause-met g t c =
    let le : length c.args.ss.now ≤ c.loop-i.i = search rules in
    all-met _ (in_part c.args.in_loop c.args.workers.now c.args.rest.now) c.args.ss.now c.loop-i.i _ _ le c.loop-i.invariant.met

pub clauses-loop-c-preserved : goal.clauses-loop-c-preserved
clauses-loop-c-preserved g t c = record {
  stands = c.clause.ensures.stands;
  met = runs-more _ _ read_clause (λ x. x.needs (within c.args.around)) c.args.cs.now c.loop-c.c-index c.c-item.result _ _ _
      (grind (arith, c.loop-c-test.true)) c.c-item.is c.loop-c.invariant.met c.clause.ensures.met;
}
