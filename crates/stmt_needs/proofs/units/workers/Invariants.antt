use Rattle.stmt_needs.specs.PackageTable.{worker_needs}
use Rattle.stmt_needs.proofs.Walking.{FirstNumbered}
use Rattle.stmt_needs.proofs.units.workers.Given as goal

abbrev pub invariant-loop-w : goal.invariant-loop-w
invariant-loop-w g l = record {
  stands : g.M.MeetsExprs.stands l.work;
  met : FirstNumbered g.M.MeetsExprs.meaning worker_needs 1 l.ws l.w (g.M.MeetsExprs.going l.initial.work) (g.M.MeetsExprs.going l.work);
}
