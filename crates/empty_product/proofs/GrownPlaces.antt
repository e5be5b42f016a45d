-- What stays of places, of what is asked there, and of parts, where the table of diagrams has grown.
use Rattle.std.proofs.Common.{◌≡◌, ℕ, List, length, map, All, Option, None, refl, sym, subst, ap}
use Rattle.std.proofs.lemmas.List.Elements.{All-contains, All-weaker}
use Rattle.bal_base.specs.declared.shape.Shape.{Shape}
use Rattle.type_model.specs.declared.atoms.AtomDef.{AtomDef}
use Rattle.type_diagrams.specs.Conditions.{IsShapeOf}
use Rattle.type_diagrams.specs.Tables.{Table}
use Rattle.type_diagrams.specs.Turns.{IsSound}
use Rattle.type_diagrams.specs.Whole.{Keeps}
use Rattle.type_diagrams.proofs.Elements.{map-where}
use Rattle.type_diagrams.proofs.Keeping.{length-grows}
use Rattle.empty_product.specs.declared.slots.Demand.{Demand}
use Rattle.empty_product.specs.declared.slots.Slot.{Slot}
use Rattle.empty_product.specs.declared.slots.Slot.TheVariants.{Optional, Absent, Present}
use Rattle.empty_product.specs.declared.slots.Unwanted.{Unwanted}
use Rattle.empty_product.specs.Products.{AreSlots, AreUnwanted, HasHeldPart, all_askings, askings_of, places_of}
use Rattle.empty_product.specs.Slots.{MayHave, MustHave, IsDemand, IsInHeld, IsSlot, asking_of, place_of}

module _ (old new : Table) (keeps : Keeps old new) where
  pub place-keeps : (s : Slot) → IsSlot old s → place_of new s ≡ place_of old s
  place-keeps (Optional q) is = ap MayHave (keeps.conditions q is)
  place-keeps Absent is = refl
  place-keeps (Present q) is = ap MustHave (keeps.conditions q is)

  pub places-keep : (slots : List Slot) → AreSlots old slots → places_of new slots ≡ places_of old slots
  places-keep = map-where (IsSlot old) (place_of new) (place_of old) place-keeps

  pub slot-keeps : (s : Slot) → IsSlot old s → IsSlot new s
  slot-keeps (Optional q) is = length-grows old.diagrams new.diagrams q keeps.diagrams is
  slot-keeps Absent is = tt
  slot-keeps (Present q) is = length-grows old.diagrams new.diagrams q keeps.diagrams is

  pub slots-keep : (slots : List Slot) → AreSlots old slots → AreSlots new slots
  slots-keep = All-weaker (IsSlot old) (IsSlot new) slot-keeps

  pub demand-keeps : (d : Demand) → IsDemand old d → IsDemand new d
  demand-keeps d is = length-grows old.diagrams new.diagrams d.question keeps.diagrams is

  pub demands-keep : (ds : List Demand) → All (IsDemand old) ds → All (IsDemand new) ds
  demands-keep = All-weaker (IsDemand old) (IsDemand new) demand-keeps

  pub asking-keeps : (d : Demand) → IsDemand old d → asking_of new d ≡ asking_of old d
  asking-keeps d is = λ i. record { part = keeps.conditions d.question is i; required = d.required }

  pub askings-keep : (ds : List Demand) → All (IsDemand old) ds → map (asking_of new) ds ≡ map (asking_of old) ds
  askings-keep = map-where (IsDemand old) (asking_of new) (asking_of old) asking-keeps

  abbrev IsOver : Table → ℕ → Unwanted → Type 0
  IsOver t places u = All (IsDemand t) u.demands.items × (length u.demands.items ≡ places)

  pub unwanted-keep : (places : ℕ) (us : List Unwanted) → AreUnwanted old places us → AreUnwanted new places us
  unwanted-keep places = All-weaker (IsOver old places) (IsOver new places) (λ u is. (demands-keep u.demands.items is.0, is.1))

  pub all_askings-keep : (places : ℕ) (us : List Unwanted) → AreUnwanted old places us → all_askings new us ≡ all_askings old us
  all_askings-keep places = map-where (IsOver old places) (askings_of new) (askings_of old) (λ u is. askings-keep u.demands.items is.0)

  module _ (env : List AtomDef) (kept : List (ℕ × Option Shape)) (sound : All (IsSound env old) kept) where
    pub held-keeps : (x : Shape) → IsInHeld env old kept x → IsInHeld env new kept x
    held-keeps x h = record {
      question = h.question;
      held = h.held;
      inside = subst (λ c. IsShapeOf env c x) (sym (keeps.conditions h.question (All-contains (IsSound env old) kept (h.question, None) sound h.held))) h.inside;
    }

    pub part-keeps : (parts : List (Option Shape)) → HasHeldPart env old kept parts → HasHeldPart env new kept parts
    part-keeps parts h = record { place = h.place; part = h.part; stands = h.stands; held = held-keeps h.part h.held }
