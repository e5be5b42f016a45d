use Rattle.std.proofs.Common.{take}
use Rattle.needs.specs.Needs.{Runs, in_turn}
use Rattle.stmt_needs.specs.StmtTable.{pattern_needs}
use Rattle.stmt_needs.proofs.blocks.patterns.Given as goal

abbrev pub invariant-loop-p : goal.invariant-loop-p
invariant-loop-p g l = record {
  stands : g.M.MeetsExprs.stands l.work;
  met : Runs g.M.MeetsExprs.meaning (in_turn pattern_needs (take l.p-index l.ps)) (g.M.MeetsExprs.going l.initial.work) (g.M.MeetsExprs.going l.work);
}
