use Rattle.std.proofs.Common.{arith, refl}
use Rattle.code_assembly.specs.Unit.{params_in}
use Rattle.code_assembly.proofs.Loops.{map-next}
use Rattle.code_assembly.proofs.units.param_counts.Goals as goal

pub loop-l-preserved : goal.loop-l-preserved
loop-l-preserved c =
    map-next params_in c.args.laid.now c.loop-l.l-index c.l-item.result _ _ _ (grind (arith, c.loop-l-test.true)) c.l-item.is c.in_ok-push.ensures.items c.loop-l.invariant refl
