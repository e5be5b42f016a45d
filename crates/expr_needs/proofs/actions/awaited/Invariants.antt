use Rattle.std.proofs.Common.{take}
use Rattle.needs.specs.Needs.{Runs, in_turn}
use Rattle.expr_needs.specs.ActionTable.{await_needs}
use Rattle.expr_needs.proofs.actions.awaited.Given as goal

abbrev pub invariant-loop-q : goal.invariant-loop-q
invariant-loop-q g l = record {
  stands : g.M.MeetsExprs.stands l.work;
  met : Runs g.M.MeetsExprs.meaning (in_turn await_needs (take l.q-index l.names)) (g.M.MeetsExprs.going l.initial.work) (g.M.MeetsExprs.going l.work);
}
