use Rattle.std.proofs.Common.{arith, refl}
use Rattle.typed_tree.specs.declared.package.Initialiser.{Initialiser}
use Rattle.code_assembly.proofs.Loops.{map-next}
use Rattle.code_assembly.proofs.assembly.initialiser_units.Goals as goal

pub loop-i-preserved : goal.loop-i-preserved
loop-i-preserved c =
    map-next (λ (i : Initialiser). i.unit.number) c.args.initialisers.now c.loop-i.i-index c.i-item.result _ _ _ (grind (arith, c.loop-i-test.true)) c.i-item.is c.in_ok-push.ensures.items c.loop-i.invariant refl
