use Rattle.std.proofs.Common.{◌≡◌, map, length, sym, ap, subst, ◌∙◌}
use Rattle.std.proofs.lemmas.List.Elements.{All-map}
use Rattle.type_diagrams.proofs.AskedDiagrams.{then_on}
use Rattle.type_diagrams.proofs.Shapes.{IfOk-map}
use Rattle.type_diagrams.proofs.Tellings.{sound-keeps}
use Rattle.empty_product.specs.declared.slots.Slot.TheVariants.{Present}
use Rattle.empty_product.specs.Products.{AreSlots, AreUnwanted, TellsFilling, all_askings, places_of}
use Rattle.empty_product.specs.Slots.{IsSlot}
use Rattle.empty_product.proofs.DemandLists.{AreDemandsOf-AreUnwanted, diagrams-keep}
use Rattle.empty_product.proofs.ItemPlaces.{AreAsked-keeps}
use Rattle.empty_product.proofs.ProductItems.{filling-TellsItems, length-mapped}
use Rattle.empty_product.proofs.lists.lists_of.Goals as goal

pub avoid-requires-clause-slots : goal.avoid-requires-clause-slots
avoid-requires-clause-slots g c =
    let t = c.all_demands.new.dia in
    let is : c.deref.result.now ≡ map Present c.args.bases.now = c.deref.ensures.value ∙ c.in_ok-slots.ensures in
    subst (AreSlots t) (sym is) (All-map (IsSlot t) Present c.args.bases.now (diagrams-keep c.args.dia.now t c.args.bases.now c.all_demands.ensures.extends.keeps c.requires.bases))

pub avoid-requires-clause-unwanted : goal.avoid-requires-clause-unwanted
avoid-requires-clause-unwanted g c =
    let t = c.all_demands.new.dia in
    let is : c.deref.result.now ≡ map Present c.args.bases.now = c.deref.ensures.value ∙ c.in_ok-slots.ensures in
    let long : length c.args.bases.now ≡ length c.deref.result.now = sym (ap length is ∙ length-mapped Present c.args.bases.now) in
    subst (λ n. AreUnwanted t n c.deref-2.result.now) long
    (subst (AreUnwanted t (length c.args.bases.now)) (sym c.deref-2.ensures.value) (AreDemandsOf-AreUnwanted c.args.context.now.env.now t (length c.args.bases.now) c.args.atoms.now c.in_ok-unwanted.unwanted.items c.in_ok-unwanted.ensures.made))

pub returns-clause-extends : goal.returns-clause-extends
returns-clause-extends g c = then_on _ _ _ _ c.all_demands.ensures.extends c.avoid.ensures.extends

pub returns-clause-tells : goal.returns-clause-tells
returns-clause-tells g c =
    let env = c.args.context.now.env.now in
    let kept = g.M.Member.kept c.args.context.now.m.now in
    let old = c.args.dia.now in
    let t = c.all_demands.new.dia in
    let new = c.avoid.new.dia in
    let bases = c.args.bases.now in
    let us = c.in_ok-unwanted.unwanted.items in
    let keeps = c.all_demands.ensures.extends.keeps in
    let is : c.deref.result.now ≡ map Present bases = c.deref.ensures.value ∙ c.in_ok-slots.ensures in
    let sound = sound-keeps env old t kept keeps c.requires.sound in
    IfOk-map _ _ (λ filling tells base asked.
    let told = tells env sound in
    let slots = subst (λ ss. TellsFilling env new kept (places_of t ss) (all_askings t c.deref-2.result.now) filling) is told in
    let all = subst (λ ws. TellsFilling env new kept (places_of t (map Present bases)) (all_askings t ws) filling) c.deref-2.ensures.value slots in
    filling-TellsItems env base t new kept bases (AreAsked-keeps old t base bases keeps asked) c.args.atoms.now us c.in_ok-unwanted.ensures.made filling all)
    c.avoid.result c.avoid.ensures.tells
