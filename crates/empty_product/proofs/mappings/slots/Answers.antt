use Rattle.std.proofs.Common.{◌+◌, take, sym, subst, arith}
use Rattle.std.proofs.lemmas.List.{take_all}
use Rattle.std.specs.List.{AllZip}
use Rattle.type_diagrams.proofs.AskedDiagrams.{then_all}
use Rattle.empty_product.specs.Mappings.{IsSlotOf}
use Rattle.empty_product.proofs.MappingBodies.{slot-keeps, zip-more}
use Rattle.empty_product.proofs.mappings.slots.Goals as goal

pub returns-in_err-slot-clause-extends : goal.returns-in_err-slot-clause-extends
returns-in_err-slot-clause-extends c = then_all _ _ _ _ c.loop-key.invariant.0 c.slot.ensures.extends

pub returns-in_err-push-clause-extends : goal.returns-in_err-push-clause-extends
returns-in_err-push-clause-extends c = then_all _ _ _ _ c.loop-key.invariant.0 c.slot.ensures.extends

pub loop-key-preserved : goal.loop-key-preserved
loop-key-preserved c =
    let env = c.args.env.now in
    let wanted = c.args.wanted.now in
    let marked = c.args.marked in
    let keys = c.args.keys.now in
    let key = c.key-item.result in
    let i = c.loop-key.key-index in
    let new = c.slot.new.dia in
    let s = c.in_ok-slot.field-0 in (
      then_all _ _ _ _ c.loop-key.invariant.0 c.slot.ensures.extends,
      subst (AllZip (IsSlotOf env wanted marked new) (take (i + 1) keys)) (sym c.in_ok-push.ensures.items)
          (zip-more (IsSlotOf env wanted marked c.loop-key.dia) (IsSlotOf env wanted marked new) (slot-keeps env c.loop-key.dia new c.slot.ensures.extends.keeps wanted marked) keys c.loop-key.slots.items i key s (omega arith)
          c.loop-key.invariant.1 (subst (λ k. IsSlotOf env wanted marked new k s) c.key-item.is c.in_ok-slot.ensures.slot)),
    )

pub returns-clause-slots : goal.returns-clause-slots
returns-clause-slots c =
    subst (λ xs. AllZip (IsSlotOf c.args.env.now c.args.wanted.now c.args.marked c.loop-key.dia) xs c.loop-key.slots.items) (take_all c.loop-key.key-index c.args.keys.now (omega arith)) c.loop-key.invariant.1
