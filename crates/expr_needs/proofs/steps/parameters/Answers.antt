use Rattle.std.proofs.Common.{arith}
use Rattle.expr_needs.specs.ExprTable.{parameter_needs}
use Rattle.expr_needs.proofs.Walking.{runs-next}
use Rattle.expr_needs.proofs.steps.parameters.Goals as goal

pub loop-p-preserved : goal.loop-p-preserved
loop-p-preserved g c = record {
  stands = c.parameter.ensures.stands;
  met = runs-next _ _ parameter_needs c.args.ps.now c.loop-p.p-index c.p-item.result _ _ _
      (grind (arith, c.loop-p-test.true)) c.p-item.is c.loop-p.invariant.met c.parameter.ensures.met;
}
