use Rattle.std.proofs.Common.{take}
use Rattle.needs.specs.Needs.{Runs, in_turn}
use Rattle.stmt_needs.specs.PackageTable.{parameter_needs, assigned_in_body}
use Rattle.stmt_needs.proofs.units.first_parameters.Given as goal

abbrev pub invariant-loop-p : goal.invariant-loop-p
invariant-loop-p g l = record {
  stands : g.M.MeetsExprs.stands l.work;
  met : Runs g.M.MeetsExprs.meaning (in_turn (parameter_needs (assigned_in_body l.body)) (take l.p-index l.ps)) (g.M.MeetsExprs.going l.initial.work) (g.M.MeetsExprs.going l.work);
}
