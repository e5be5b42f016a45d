use Rattle.std.proofs.Common.{arith}
use Rattle.expr_needs.proofs.Walking.{runs-next}
use Rattle.stmt_needs.specs.StmtTable.{pattern_needs}
use Rattle.stmt_needs.proofs.blocks.patterns.Goals as goal

pub loop-p-preserved : goal.loop-p-preserved
loop-p-preserved g c = record {
  stands = c.has_pattern.ensures.stands;
  met = runs-next _ _ pattern_needs c.args.ps.now c.loop-p.p-index c.p-item.result _ _ _
      (grind (arith, c.loop-p-test.true)) c.p-item.is c.loop-p.invariant.met c.has_pattern.ensures.met;
}
