use Rattle.std.proofs.Common.{take}
use Rattle.needs.specs.Needs.{Runs, in_turn}
use Rattle.stmt_needs.specs.PackageTable.{def_needs}
use Rattle.stmt_needs.proofs.units.defs.Given as goal

abbrev pub invariant-loop-d : goal.invariant-loop-d
invariant-loop-d g l = record {
  stands : g.M.MeetsExprs.stands l.work;
  met : Runs g.M.MeetsExprs.meaning (in_turn (def_needs l.kept) (take l.d-index l.ds)) (g.M.MeetsExprs.going l.initial.work) (g.M.MeetsExprs.going l.work);
}
