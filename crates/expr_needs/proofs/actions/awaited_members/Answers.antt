use Rattle.std.proofs.Common.{arith}
use Rattle.expr_needs.specs.ActionTable.{await_member_needs}
use Rattle.expr_needs.proofs.Walking.{runs-next}
use Rattle.expr_needs.proofs.actions.awaited_members.Goals as goal

pub loop-m-preserved : goal.loop-m-preserved
loop-m-preserved g c = record {
  stands = c.awaited_member.ensures.stands;
  met = runs-next _ _ await_member_needs c.args.members.now c.loop-m.m-index c.m-item.result _ _ _
      (grind (arith, c.loop-m-test.true)) c.m-item.is c.loop-m.invariant.met c.awaited_member.ensures.met;
}
