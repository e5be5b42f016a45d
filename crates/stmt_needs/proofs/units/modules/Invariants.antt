use Rattle.stmt_needs.specs.PackageTable.{module_needs}
use Rattle.stmt_needs.proofs.Walking.{FirstNumbered}
use Rattle.stmt_needs.proofs.units.modules.Given as goal

abbrev pub invariant-loop-m : goal.invariant-loop-m
invariant-loop-m g l = record {
  stands : g.M.MeetsExprs.stands l.work;
  met : FirstNumbered g.M.MeetsExprs.meaning (module_needs l.main) 0 l.ms l.m (g.M.MeetsExprs.going l.initial.work) (g.M.MeetsExprs.going l.work);
}
