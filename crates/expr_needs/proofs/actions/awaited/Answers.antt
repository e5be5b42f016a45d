use Rattle.std.proofs.Common.{arith}
use Rattle.expr_needs.specs.ActionTable.{await_needs}
use Rattle.expr_needs.proofs.Walking.{runs-next}
use Rattle.expr_needs.proofs.actions.awaited.Goals as goal

pub loop-q-preserved : goal.loop-q-preserved
loop-q-preserved g c = record {
  stands = c.awaits.ensures.stands;
  met = runs-next _ _ await_needs c.args.names.now c.loop-q.q-index c.q-item.result _ _ _
      (grind (arith, c.loop-q-test.true)) c.q-item.is c.loop-q.invariant.met c.awaits.ensures.met;
}
