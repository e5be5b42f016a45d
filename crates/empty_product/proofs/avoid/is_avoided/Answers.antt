use Rattle.std.proofs.Common.{arith}
use Rattle.type_diagrams.proofs.AskedDiagrams.{then_all}
use Rattle.empty_product.proofs.SlotPlaces.{outside-Avoids}
use Rattle.empty_product.proofs.avoid.is_avoided.Goals as goal

pub returns-in_err-is_outside-clause-extends : goal.returns-in_err-is_outside-clause-extends
returns-in_err-is_outside-clause-extends c = then_all _ _ _ _ c.loop-place.invariant c.is_outside.ensures.extends

pub returns-then-branch-clause-extends : goal.returns-then-branch-clause-extends
returns-then-branch-clause-extends c = then_all _ _ _ _ c.loop-place.invariant c.is_outside.ensures.extends

pub returns-then-branch-clause-avoided : goal.returns-then-branch-clause-avoided
returns-then-branch-clause-avoided c = λ h.
    outside-Avoids c.args.dia.now c.loop-place.dia c.loop-place.invariant.keeps c.args.slots.now c.args.demands.now c.loop-place.place _ _ c.requires.lengths (omega arith) c.requires.slots c.requires.demands (c.in_ok-is_outside.ensures.outside c.if-branch.true)

pub loop-place-preserved : goal.loop-place-preserved
loop-place-preserved c = then_all _ _ _ _ c.loop-place.invariant c.is_outside.ensures.extends
