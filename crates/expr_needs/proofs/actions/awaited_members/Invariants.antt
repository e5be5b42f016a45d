use Rattle.std.proofs.Common.{take}
use Rattle.needs.specs.Needs.{Runs, in_turn}
use Rattle.expr_needs.specs.ActionTable.{await_member_needs}
use Rattle.expr_needs.proofs.actions.awaited_members.Given as goal

abbrev pub invariant-loop-m : goal.invariant-loop-m
invariant-loop-m g l = record {
  stands : g.M.MeetsExprs.stands l.work;
  met : Runs g.M.MeetsExprs.meaning (in_turn await_member_needs (take l.m-index l.members)) (g.M.MeetsExprs.going l.initial.work) (g.M.MeetsExprs.going l.work);
}
