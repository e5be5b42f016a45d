use Rattle.std.proofs.Common.{arith}
use Rattle.expr_needs.proofs.Walking.{runs-next}
use Rattle.stmt_needs.specs.PackageTable.{def_needs}
use Rattle.stmt_needs.proofs.units.defs.Goals as goal

pub loop-d-preserved : goal.loop-d-preserved
loop-d-preserved g c = record {
  stands = c.def.ensures.stands;
  met = runs-next _ _ (def_needs c.args.kept) c.args.ds.now c.loop-d.d-index c.d-item.result _ _ _
      (grind (arith, c.loop-d-test.true)) c.d-item.is c.loop-d.invariant.met c.def.ensures.met;
}
