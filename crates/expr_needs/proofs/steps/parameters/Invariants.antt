use Rattle.std.proofs.Common.{take}
use Rattle.needs.specs.Needs.{Runs, in_turn}
use Rattle.expr_needs.specs.ExprTable.{parameter_needs}
use Rattle.expr_needs.proofs.steps.parameters.Given as goal

abbrev pub invariant-loop-p : goal.invariant-loop-p
invariant-loop-p g l = record {
  stands : g.M.MeetsExprs.stands l.work;
  met : Runs g.M.MeetsExprs.meaning (in_turn parameter_needs (take l.p-index l.ps)) (g.M.MeetsExprs.going l.initial.work) (g.M.MeetsExprs.going l.work);
}
