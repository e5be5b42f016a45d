use Rattle.std.proofs.Common.{◌≡◌, All, length, slice_set, refl, sym, ap, subst, ◌∙◌}
use Rattle.std.proofs.Math.ListN.{length-set}
use Rattle.std.proofs.lemmas.Option.{slice_get_read}
use Rattle.type_diagrams.specs.Conditions.{LooksAtKinds}
use Rattle.type_diagrams.specs.Tables.{condition}
use Rattle.type_diagrams.proofs.AskedDiagrams.{gives_itself}
use Rattle.type_diagrams.proofs.Shapes.{IfOk-map}
use Rattle.empty_product.specs.declared.slots.Slot.TheVariants.{Absent}
use Rattle.empty_product.specs.Cells.{IsAimed, TellsCells, aims_of}
use Rattle.empty_product.specs.Products.{all_askings, places_of}
use Rattle.empty_product.specs.Slots.{HasNone, place_of}
use Rattle.empty_product.specs.Standing.{SlotLooks}
use Rattle.empty_product.proofs.Aiming.{absent-TellsStanding, aims-IsAimed, aims-Look, slot-Looks, slot-has}
use Rattle.empty_product.proofs.Targets.{aims-at, cells-TellsStanding, left_out-places}
use Rattle.empty_product.proofs.Zipped.{All-slice_get}
use Rattle.empty_product.proofs.MappingParts.{map-at}
use Rattle.empty_product.proofs.cells.parts_at.Goals as goal

pub returns-in_default-clause-tells : goal.returns-in_default-clause-tells
returns-in_default-clause-tells g c =
    let old = c.args.dia.now in
    let slots = c.args.slots.items in
    λ env sound.
    absent-TellsStanding old env old (g.M.Member.kept c.args.context.now.m.now) slots c.args.target c.index.result.now (all_askings old c.args.unwanted.items) (condition old c.args.found) c.args.found
    (slice_get_read slots (length slots) c.args.target c.index.result.now refl c.requires.target c.index.ensures) (sym c.part_of.ensures ∙ c.in_default.is) (gives_itself old c.args.found c.requires.found)

pub cells-requires-clause-undecided : goal.cells-requires-clause-undecided
cells-requires-clause-undecided g c =
    let old = c.args.dia.now in
    let slots = c.args.slots.items in
    let us = c.args.unwanted.items in
    let n = length slots in
    let long : n ≡ length c.deref.result.now = sym (length-set slots c.args.target Absent) ∙ sym (ap length c.deref.ensures.value) in
    subst (λ xs. All (IsAimed old (length c.deref.result.now)) xs) (sym c.deref-2.ensures.value)
    (subst (λ k. All (IsAimed old k) c.in_ok-undecided.undecided.items) long (aims-IsAimed old c.args.target n us c.in_ok-undecided.undecided.items c.in_ok-undecided.ensures c.requires.unwanted))

pub returns-clause-looks : goal.returns-clause-looks
returns-clause-looks g c =
    let old = c.args.dia.now in
    let slots = c.args.slots.items in
    let us = c.args.unwanted.items in
    let aimed = c.in_ok-undecided.undecided.items in
    let has = sym c.part_of.ensures ∙ c.in-Some.is in
    let at = slice_get_read slots (length slots) c.args.target c.index.result.now refl c.requires.target c.index.ensures in
    IfOk-map _ _ (λ p h env looking found.
    h env (slot-Looks old env c.index.result.now c.in-Some.part has (All-slice_get (SlotLooks env old) slots c.args.target c.index.result.now looking.0 at)) found
    (subst (λ xs. All (λ a. LooksAtKinds env (condition old a.there)) xs) (sym c.deref-2.ensures.value) (aims-Look old c.args.target (length slots) us aimed c.in_ok-undecided.ensures env looking.1)))
    c.cells.result c.cells.ensures.looks

pub returns-clause-tells : goal.returns-clause-tells
returns-clause-tells g c =
    let old = c.args.dia.now in
    let new = c.cells.new.dia in
    let kept = g.M.Member.kept c.args.context.now.m.now in
    let slots = c.args.slots.items in
    let us = c.args.unwanted.items in
    let target = c.args.target in
    let aimed = c.in_ok-undecided.undecided.items in
    let s = c.index.result.now in
    let part = condition old c.in-Some.part in
    let found = condition old c.args.found in
    let has = slot-has old s c.in-Some.part (sym c.part_of.ensures ∙ c.in-Some.is) in
    let at = map-at (place_of old) slots target s (slice_get_read slots (length slots) target s refl c.requires.target c.index.ensures) in
    let others = ap (places_of old) c.deref.ensures.value ∙ left_out-places old target slots in
    let none = ap (all_askings old) (c.deref-3.ensures.value ∙ c.new-none.ensures.items) in
    IfOk-map _ _ (λ p h env sound.
    let told = subst (λ ps. TellsCells env ps new kept (aims_of old c.deref-2.result.now) (all_askings old c.deref-3.result.now) part found p) others (h env sound) in
    let mine = subst (λ xs. TellsCells env (slice_set (places_of old slots) target HasNone) new kept (aims_of old xs) (all_askings old c.deref-3.result.now) part found p) c.deref-2.ensures.value told in
    let all = subst (λ ds. TellsCells env (slice_set (places_of old slots) target HasNone) new kept (aims_of old aimed) ds part found p) none mine in
    cells-TellsStanding env (places_of old slots) (all_askings old us) target (place_of old s) part at has (aims_of old aimed) (aims-at old target us aimed c.in_ok-undecided.ensures) new kept found p all)
    c.cells.result c.cells.ensures.tells
