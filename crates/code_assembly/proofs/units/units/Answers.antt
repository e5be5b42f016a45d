use Rattle.std.proofs.Common.{arith}
use Rattle.code_assembly.specs.Unit.{IsUnitOf}
use Rattle.code_assembly.proofs.Loops.{zip-next}
use Rattle.code_assembly.proofs.units.units.Goals as goal

pub loop-l-preserved : goal.loop-l-preserved
loop-l-preserved c =
    zip-next IsUnitOf c.args.laid.now c.loop-l.l-index c.l-item.result _ _ _ (grind (arith, c.loop-l-test.true)) c.l-item.is c.in_ok-push.ensures.items c.loop-l.invariant c.in_ok-unit.ensures
