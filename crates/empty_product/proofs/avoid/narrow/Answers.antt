use Rattle.std.proofs.Common.{map, subst, sym}
use Rattle.std.proofs.Math.ListN.{set}
use Rattle.empty_product.specs.Products.{AreNarrower, places_of}
use Rattle.empty_product.specs.Slots.{asking_of}
use Rattle.empty_product.proofs.SlotPlaces.{narrowed-Slot, narrowed-Nothing, narrowed-Ask}
use Rattle.empty_product.proofs.avoid.narrow.Goals as goal

pub returns-in_ok-next-in-Slot-clause-tells : goal.returns-in_ok-next-in-Slot-clause-tells
returns-in_ok-next-in-Slot-clause-tells g c =
    let old = c.args.dia.now in
    let new = c.narrow_slot.new.dia in
    let kept = g.M.Member.kept c.args.context.now.m.now in
    subst (λ xs. AreNarrower new kept (places_of old c.args.slots.now) (map (asking_of old) c.args.demands.now) c.args.place c.args.absent (set xs c.args.place c.in-Slot.slot)) (sym c.in_ok-next-in-Slot.ensures.items)
    (narrowed-Slot old new kept c.args.slots.now c.args.demands.now c.args.place c.args.absent _ _ c.requires.lengths c.requires.place c.in-Slot.slot c.in_ok-slot.field-0 c.narrow_slot.ensures.extends.keeps c.requires.slots c.in_ok-slot.ensures.tells c.in-Slot.is)

pub returns-in-Nothing-clause-tells : goal.returns-in-Nothing-clause-tells
returns-in-Nothing-clause-tells g c =
    narrowed-Nothing c.args.dia.now c.narrow_slot.new.dia (g.M.Member.kept c.args.context.now.m.now) c.args.slots.now c.args.demands.now c.args.place c.args.absent _ _ c.requires.lengths c.requires.place c.in_ok-slot.field-0 c.in_ok-slot.ensures.tells c.in-Nothing.is

pub returns-in-Ask-clause-tells : goal.returns-in-Ask-clause-tells
returns-in-Ask-clause-tells g c =
    narrowed-Ask c.args.dia.now c.narrow_slot.new.dia (g.M.Member.kept c.args.context.now.m.now) c.args.slots.now c.args.demands.now c.args.place c.args.absent _ _ c.requires.lengths c.requires.place c.in-Ask.question c.in_ok-slot.field-0 c.in_ok-slot.ensures.tells c.in-Ask.is
