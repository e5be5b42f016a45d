use Rattle.std.proofs.Common.{◌≡◌, ◌<◌, map, length, sym, ap, subst, ◌∙◌}
use Rattle.std.proofs.lemmas.List.Elements.{All-map}
use Rattle.type_diagrams.specs.Conditions.{LooksAtKinds}
use Rattle.type_diagrams.specs.Tables.{condition}
use Rattle.type_diagrams.proofs.AskedDiagrams.{then_on}
use Rattle.type_diagrams.proofs.Keeping.{length-grows}
use Rattle.type_diagrams.proofs.Shapes.{IfOk-map}
use Rattle.type_diagrams.proofs.Tellings.{sound-keeps}
use Rattle.empty_product.specs.declared.slots.Slot.TheVariants.{Present}
use Rattle.empty_product.specs.Cells.{LooksAtParts}
use Rattle.empty_product.specs.Products.{AreSlots, AreUnwanted, all_askings, places_of}
use Rattle.empty_product.specs.Slots.{IsSlot}
use Rattle.empty_product.specs.Standing.{AreLooking, TellsStanding}
use Rattle.empty_product.proofs.DemandLists.{AreDemandsOf-AreUnwanted, diagrams-keep}
use Rattle.empty_product.proofs.ItemPlaces.{AreAsked-keeps}
use Rattle.empty_product.proofs.ItemsAt.{standing-TellsItemsAt}
use Rattle.empty_product.proofs.Looking.{all_looking-keep, items-AreLooking, looking-diagrams, looking-keeps, result-GivesLooking}
use Rattle.empty_product.proofs.ProductItems.{length-mapped}
use Rattle.empty_product.proofs.list_items.items_of.Goals as goal

pub parts_at-requires-clause-slots : goal.parts_at-requires-clause-slots
parts_at-requires-clause-slots g c =
    let t = c.all_demands.new.dia in
    let bases = c.args.bases.now in
    subst (AreSlots t) (sym c.in_ok-slots.ensures) (All-map (IsSlot t) Present bases (diagrams-keep c.args.dia.now t bases c.all_demands.ensures.extends.keeps (looking-diagrams c.args.context.now.env.now c.args.dia.now bases c.requires.bases)))

pub parts_at-requires-clause-unwanted : goal.parts_at-requires-clause-unwanted
parts_at-requires-clause-unwanted g c =
    let t = c.all_demands.new.dia in
    let long : length c.args.bases.now ≡ length c.in_ok-slots.slots.items = sym (ap length c.in_ok-slots.ensures ∙ length-mapped Present c.args.bases.now) in
    subst (λ n. AreUnwanted t n c.in_ok-asked.asked.items) long (AreDemandsOf-AreUnwanted c.args.context.now.env.now t (length c.args.bases.now) c.args.atoms.now c.in_ok-asked.asked.items c.in_ok-asked.ensures.made)

pub parts_at-requires-clause-target : goal.parts_at-requires-clause-target
parts_at-requires-clause-target g c =
    subst (λ n. c.args.place < n) (sym (ap length c.in_ok-slots.ensures ∙ length-mapped Present c.args.bases.now)) c.requires.place

pub parts_at-requires-clause-found : goal.parts_at-requires-clause-found
parts_at-requires-clause-found g c = length-grows c.args.dia.now.diagrams c.all_demands.new.dia.diagrams c.args.found c.all_demands.ensures.extends.keeps.diagrams c.requires.found.diagram

pub returns-clause-extends : goal.returns-clause-extends
returns-clause-extends g c = then_on _ _ _ _ c.all_demands.ensures.extends c.parts_at.ensures.extends

pub returns-clause-question : goal.returns-clause-question
returns-clause-question g c =
    let env = c.args.context.now.env.now in
    let old = c.args.dia.now in
    let t = c.all_demands.new.dia in
    let new = c.parts_at.new.dia in
    let bases = c.args.bases.now in
    let us = c.in_ok-asked.asked.items in
    let keeps = c.all_demands.ensures.extends.keeps in
    let places = items-AreLooking env t (length bases) bases c.args.atoms.now us (all_looking-keep env old t keeps bases c.requires.bases) c.in_ok-asked.ensures.made in
    let looks = IfOk-map _ _ (λ p h. subst (λ ss. AreLooking env t ss us → LooksAtKinds env (condition t c.args.found) → LooksAtParts env new p) c.in_ok-slots.ensures (h env)) c.parts_at.result c.parts_at.ensures.looks in
    result-GivesLooking env t new bases us (condition t c.args.found) c.parts_at.result places (looking-keeps env old t keeps c.args.found c.requires.found).looks c.parts_at.ensures.diagram looks

pub returns-clause-tells : goal.returns-clause-tells
returns-clause-tells g c =
    let env = c.args.context.now.env.now in
    let kept = g.M.Member.kept c.args.context.now.m.now in
    let old = c.args.dia.now in
    let t = c.all_demands.new.dia in
    let new = c.parts_at.new.dia in
    let bases = c.args.bases.now in
    let us = c.in_ok-asked.asked.items in
    let keeps = c.all_demands.ensures.extends.keeps in
    IfOk-map _ _ (λ p tells base asked.
    let told = tells env (sound-keeps env old t kept keeps c.requires.sound) in
    let slots = subst (λ ss. TellsStanding env new kept (places_of t ss) (all_askings t us) c.args.place (condition t c.args.found) p) c.in_ok-slots.ensures told in
    let found = subst (λ d. TellsStanding env new kept (places_of t (map Present bases)) (all_askings t us) c.args.place d p) (keeps.conditions c.args.found c.requires.found.diagram) slots in
    standing-TellsItemsAt env base t new kept bases (AreAsked-keeps old t base bases keeps asked) c.args.atoms.now us c.in_ok-asked.ensures.made c.args.place (condition old c.args.found) p found)
    c.parts_at.result c.parts_at.ensures.tells
