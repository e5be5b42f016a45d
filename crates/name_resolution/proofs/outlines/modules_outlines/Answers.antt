use Rattle.std.proofs.Common.{arith}
use Rattle.name_resolution.proofs.OutlineLoops.{modules-more}
use Rattle.name_resolution.proofs.outlines.modules_outlines.Goals as goal

pub loop-number-preserved : goal.loop-number-preserved
loop-number-preserved c =
    modules-more c.args.home.now c.args.modules.now c.loop-number.number c.index-modules-number.result c.loop-number.out.items c.module_outlines.new.out.items (grind (arith, c.loop-number-test.true)) c.index-modules-number.is c.loop-number.invariant c.in_ok-module_outlines.ensures
