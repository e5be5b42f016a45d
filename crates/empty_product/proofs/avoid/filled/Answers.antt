use Rattle.std.proofs.Common.{◌<◌, length, get_or, subst, sym, arith}
use Rattle.empty_product.specs.declared.slots.Slot.TheVariants.{Optional}
use Rattle.empty_product.specs.Products.{places_of}
use Rattle.empty_product.specs.Slots.{place_of}
use Rattle.empty_product.proofs.PlacedParts.{StandFirst, one_more_stands}
use Rattle.empty_product.proofs.SlotPlaces.{kept-Void, kept-Unknown, kept-Part, place-there}
use Rattle.empty_product.proofs.avoid.filled.Goals as goal

pub returns-in-Void : goal.returns-in-Void
returns-in-Void g c = λ env sound parts is all.
    kept-Void c.args.dia.now (g.M.Member.kept c.args.context.now.m.now) c.args.slots.now c.loop-slot.slot-index _ (omega arith) env c.in_ok-part.field-0 (c.in_ok-part.ensures env sound) c.in-Void.is parts is

pub returns-in-Unknown : goal.returns-in-Unknown
returns-in-Unknown g c = λ env sound.
    kept-Unknown c.args.dia.now (g.M.Member.kept c.args.context.now.m.now) c.args.slots.now c.loop-slot.slot-index _ (omega arith) env c.in-Unknown.question c.in_ok-part.field-0 (c.in_ok-part.ensures env sound) c.in-Unknown.is

pub loop-slot-preserved : goal.loop-slot-preserved
loop-slot-preserved g c = (
  omega (arith, c.in_ok-push-in-Part.ensures.len),
  λ env sound.
      let t = c.args.dia.now in
      let slots = c.args.slots.now in
      let i = c.loop-slot.slot-index in
      let within : i < length slots = omega arith in
      let is = kept-Part t (g.M.Member.kept c.args.context.now.m.now) slots i (Optional 0) within env c.in-Part.part c.in_ok-part.field-0 (c.in_ok-part.ensures env sound) c.in-Part.is in
      subst (StandFirst env (places_of t slots)) (sym c.in_ok-push-in-Part.ensures.items)
      (one_more_stands env (places_of t slots) c.loop-slot.parts.items i (place_of t (get_or slots i (Optional 0))) c.in-Part.part c.loop-slot.invariant.0 (place-there t slots i (Optional 0) within) is (c.loop-slot.invariant.1 env sound)),
)
