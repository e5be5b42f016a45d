use Rattle.stmt_needs.specs.PackageTable.{file_needs}
use Rattle.stmt_needs.proofs.Walking.{FirstNumbered}
use Rattle.stmt_needs.proofs.units.files.Given as goal

abbrev pub invariant-loop-f : goal.invariant-loop-f
invariant-loop-f g l = record {
  stands : g.M.MeetsExprs.stands l.work;
  met : FirstNumbered g.M.MeetsExprs.meaning (file_needs l.kept l.number) 0 l.fs l.f (g.M.MeetsExprs.going l.initial.work) (g.M.MeetsExprs.going l.work);
}
