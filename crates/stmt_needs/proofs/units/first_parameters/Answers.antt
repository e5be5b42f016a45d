use Rattle.std.proofs.Common.{arith}
use Rattle.expr_needs.proofs.Walking.{runs-next}
use Rattle.stmt_needs.specs.PackageTable.{parameter_needs, assigned_in_body}
use Rattle.stmt_needs.proofs.units.first_parameters.Goals as goal

pub loop-p-preserved : goal.loop-p-preserved
loop-p-preserved g c = record {
  stands = c.names_parameter.ensures.stands;
  met = runs-next _ _ (parameter_needs (assigned_in_body c.args.body.now)) c.args.ps.now c.loop-p.p-index c.p-item.result _ _ _
      (grind (arith, c.loop-p-test.true)) c.p-item.is c.loop-p.invariant.met c.names_parameter.ensures.met;
}
