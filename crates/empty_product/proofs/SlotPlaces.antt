-- Slots by their places: what a call says of one slot, as a fact of the product.
use Rattle.std.proofs.Common.{◌≡◌, ℕ, ◌<◌, List, [], length, map, get_or, All, Bool, Option, Some, option_map, slice_get, sym, subst, ap, ◌∙◌, arith}
use Rattle.std.proofs.Math.ListN.{set}
use Rattle.std.proofs.lemmas.List.{map-set}
use Rattle.std.proofs.lemmas.List.Elements.{All-get_or, All-set}
use Rattle.std.proofs.lemmas.Option.{slice_get-get_or, slice_get-map}
use Rattle.bal_base.specs.declared.shape.Shape.{Shape}
use Rattle.type_model.specs.declared.atoms.AtomDef.{AtomDef}
use Rattle.type_diagrams.specs.Conditions.{IsNothing}
use Rattle.type_diagrams.specs.Kept.{IsUnknown}
use Rattle.type_diagrams.specs.Tables.{Table, IsDiagram, condition}
use Rattle.type_diagrams.specs.Whole.{Keeps}
use Rattle.empty_product.specs.declared.avoid.Kept.{Kept}
use Rattle.empty_product.specs.declared.avoid.Kept.TheVariants.{Part as KeptPart, Void as KeptVoid, Unknown as KeptUnknown}
use Rattle.empty_product.specs.declared.slots.Demand.{Demand}
use Rattle.empty_product.specs.declared.slots.Narrowed.{Narrowed}
use Rattle.empty_product.specs.declared.slots.Narrowed.TheVariants.{Slot as To, Nothing, Ask}
use Rattle.empty_product.specs.declared.slots.Slot.{Slot}
use Rattle.empty_product.specs.Products.{AreNarrower, AreSlots, AsksNext, AsksPart, Avoids, HasHeldPart, HasNoNext, IsAtPlace, IsIn, TellsKept, places_of}
use Rattle.empty_product.specs.Slots.{IsAt, AvoidsAt, IsDemand, IsSlot, TellsNarrowed, asking_of, place_of}
use Rattle.empty_product.proofs.GrownPlaces.{asking-keeps, place-keeps, places-keep, slots-keep}
use Rattle.empty_product.proofs.PlacedParts.{avoided-at, base-AsksPart, part-at}

module _ (t : Table) where
  pub place-there : (slots : List Slot) (k : ℕ) (d : Slot) → k < length slots → slice_get (places_of t slots) k ≡ Some (place_of t (get_or slots k d))
  place-there slots k d lt = slice_get-map (place_of t) slots k ∙ (λ i. option_map (place_of t) (slice_get-get_or slots k d lt i))

  pub asking-there : (ds : List Demand) (k : ℕ) (e : Demand) → k < length ds → slice_get (map (asking_of t) ds) k ≡ Some (asking_of t (get_or ds k e))
  asking-there ds k e lt = slice_get-map (asking_of t) ds k ∙ (λ i. option_map (asking_of t) (slice_get-get_or ds k e lt i))

-- ---- one slot made narrower

module _ (old new : Table) (kept : List (ℕ × Option Shape)) (slots : List Slot) (demands : List Demand) (place : ℕ) (absent : Bool) (d : Slot) (e : Demand) (long : length demands ≡ length slots) (within : place < length slots) where
  abbrev slot : Slot
  slot = get_or slots place d

  abbrev demand : Demand
  demand = get_or demands place e

  stands : IsAtPlace new kept (places_of old slots) (map (asking_of old) demands) place absent (place_of old slot) (asking_of old demand)
  stands = record { is_place = place-there old slots place d within; is_asking = asking-there old demands place e (omega (arith, long, within)) }

  pub narrowed-Slot : (s : Slot) (n : Narrowed) → Keeps old new → AreSlots old slots → TellsNarrowed new kept (place_of old slot) (asking_of old demand) absent n → n ≡ To s
      → AreNarrower new kept (places_of old slots) (map (asking_of old) demands) place absent (set slots place s)
  narrowed-Slot s n keeps are tells is =
      let told = subst (TellsNarrowed new kept (place_of old slot) (asking_of old demand) absent) is tells in
      record {
        slots = All-set (IsSlot new) slots place s told.0 (slots-keep old new keeps slots are);
        at = place_of old slot;
        asking = asking_of old demand;
        narrower = place_of new s;
        stands = stands;
        narrows = told.1;
        others = map-set (place_of new) slots place s ∙ ap (λ ps. set ps place (place_of new s)) (places-keep old new keeps slots are);
      }

  pub narrowed-Nothing : (n : Narrowed) → TellsNarrowed new kept (place_of old slot) (asking_of old demand) absent n → n ≡ Nothing
      → HasNoNext new kept (places_of old slots) (map (asking_of old) demands) place absent
  narrowed-Nothing n tells is = record {
    at = place_of old slot;
    asking = asking_of old demand;
    stands = stands;
    void = subst (TellsNarrowed new kept (place_of old slot) (asking_of old demand) absent) is tells;
  }

  pub narrowed-Ask : (q : ℕ) (n : Narrowed) → TellsNarrowed new kept (place_of old slot) (asking_of old demand) absent n → n ≡ Ask q
      → IsDiagram new q × IsUnknown kept q × (¬ IsNothing (condition new q)) × AsksNext new kept (places_of old slots) (map (asking_of old) demands) place absent (condition new q)
  narrowed-Ask q n tells is =
      let told = subst (TellsNarrowed new kept (place_of old slot) (asking_of old demand) absent) is tells in
      (told.0, told.1, told.2, record { at = place_of old slot; asking = asking_of old demand; base = told.3.0; stands = stands; has = told.3.1; asked = told.3.2 })

-- ---- a place where an atom is avoided

module _ (old mid : Table) (keeps : Keeps old mid) (slots : List Slot) (demands : List Demand) (place : ℕ) (d : Slot) (e : Demand) (long : length demands ≡ length slots) (within : place < length slots) where
  pub outside-Avoids : AreSlots old slots → All (IsDemand old) demands
      → ((env : List AtomDef) (x : Option Shape) → IsAt env (place_of mid (get_or slots place d)) x → AvoidsAt env (asking_of mid (get_or demands place e)) x)
      → (env : List AtomDef) (parts : List (Option Shape)) → IsIn env (places_of old slots) parts → Avoids env (map (asking_of old) demands) parts
  outside-Avoids are over outside env parts is =
      let there : place < length demands = omega (arith, long, within) in
      let same = place-keeps old mid keeps (get_or slots place d) (All-get_or (IsSlot old) slots place d within are) in
      let asked = asking-keeps old mid keeps (get_or demands place e) (All-get_or (IsDemand old) demands place e there over) in
      avoided-at env (places_of old slots) parts is (map (asking_of old) demands) place (place_of old (get_or slots place d)) (asking_of old (get_or demands place e))
      (place-there old slots place d within) (asking-there old demands place e there)
      (λ x at. subst (λ a. AvoidsAt env a x) asked (outside env x (subst (λ p. IsAt env p x) (sym same) at)))

-- ---- what the table has for one slot

module _ (t : Table) (kept : List (ℕ × Option Shape)) (slots : List Slot) (place : ℕ) (d : Slot) (within : place < length slots) where
  pub kept-Void : (env : List AtomDef) (k : Kept) → TellsKept env t kept (place_of t (get_or slots place d)) k → k ≡ KeptVoid → (parts : List (Option Shape)) → IsIn env (places_of t slots) parts → HasHeldPart env t kept parts
  kept-Void env k tells is parts is_in =
      let told = subst (TellsKept env t kept (place_of t (get_or slots place d))) is tells in
      let found = part-at env (places_of t slots) parts is_in place (place_of t (get_or slots place d)) (place-there t slots place d within) in
      let held = told found.0 found.2 in
      record { place = place; part = held.0; stands = found.1 ∙ ap Some held.1; held = held.2 }

  pub kept-Unknown : (env : List AtomDef) (q : ℕ) (k : Kept) → TellsKept env t kept (place_of t (get_or slots place d)) k → k ≡ KeptUnknown q
      → IsDiagram t q × IsUnknown kept q × (¬ IsNothing (condition t q)) × AsksPart (places_of t slots) [] (condition t q)
  kept-Unknown env q k tells is =
      let told = subst (TellsKept env t kept (place_of t (get_or slots place d))) is tells in
      (told.0, told.1, told.2, base-AsksPart (places_of t slots) (condition t q) [] place (place_of t (get_or slots place d)) told.3.0 (place-there t slots place d within) told.3.1 told.3.2)

  pub kept-Part : (env : List AtomDef) (x : Option Shape) (k : Kept) → TellsKept env t kept (place_of t (get_or slots place d)) k → k ≡ KeptPart x → IsAt env (place_of t (get_or slots place d)) x
  kept-Part env x k tells is = subst (TellsKept env t kept (place_of t (get_or slots place d))) is tells
