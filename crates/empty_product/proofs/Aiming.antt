-- Atoms aimed at a place: over diagrams, and at what they look; and what is asked at that place.
use Rattle.std.proofs.Common.{◌≡◌, ℕ, List, length, false, All, Option, Some, None, slice_get, sym, ap, subst, ◌∙◌}
use Rattle.std.specs.List.{AllZip}
use Rattle.std.proofs.Math.ListN.{length-set}
use Rattle.std.proofs.lemmas.List.Elements.{All-set}
use Rattle.bal_base.specs.declared.shape.Shape.{Shape}
use Rattle.type_model.specs.declared.atoms.AtomDef.{AtomDef}
use Rattle.type_diagrams.specs.declared.projection.Projection.TheVariants.{Parts}
use Rattle.type_diagrams.specs.Conditions.{Condition, LooksAtKinds}
use Rattle.type_diagrams.specs.Tables.{Table, IsDiagram, condition}
use Rattle.type_diagrams.specs.Whole.{Gives}
use Rattle.empty_product.specs.declared.cells.Aimed.{Aimed}
use Rattle.empty_product.specs.declared.slots.Demand.{Demand}
use Rattle.empty_product.specs.declared.slots.Slot.{Slot}
use Rattle.empty_product.specs.declared.slots.Slot.TheVariants.{Optional, Absent, Present}
use Rattle.empty_product.specs.declared.slots.Unwanted.{Unwanted}
use Rattle.empty_product.specs.Cells.{IsAimOf, IsAimed}
use Rattle.empty_product.specs.Products.{AreUnwanted, HasHeldPart, places_of}
use Rattle.empty_product.specs.Slots.{Asking, IsAt, IsDemand, IsSlot, condition_at, place_of}
use Rattle.empty_product.specs.Standing.{SlotLooks, StandsInFilling, TellsStanding, question_of}
use Rattle.empty_product.proofs.Gathering.{none-Gathers}
use Rattle.empty_product.proofs.MappingParts.{map-at}
use Rattle.empty_product.proofs.Zipped.{some_same, none_some, All-from_slice_get, All-slice_get, AllZip-back}

module _ (t : Table) (target n : ℕ) (us : List Unwanted) (aimed : List Aimed) (aims : AllZip (IsAimOf target) us aimed) where
  abbrev IsOver : Unwanted → Type 0
  IsOver u = All (IsDemand t) u.demands.items × (length u.demands.items ≡ n)

  pub aims-IsAimed : AreUnwanted t n us → All (IsAimed t n) aimed
  aims-IsAimed are = All-from_slice_get (IsAimed t n) aimed (λ k a at.
      let row = AllZip-back (IsAimOf target) us aimed aims k a at in
      let ds = row.0.demands.items in
      let is = row.2 in
      let over = All-slice_get IsOver us k row.0 are row.1 in
      let here : IsDiagram t is.demand.question = All-slice_get (IsDemand t) ds target is.demand over.0 is.stands in
      let new : Demand = record { question = is.demand.question; required = false } in
      record {
        there = subst (IsDiagram t) (sym is.there) here;
        elsewhere = subst (All (IsDemand t)) (sym is.elsewhere) (All-set (IsDemand t) ds target new here over.0);
        count = ap length is.elsewhere ∙ length-set ds target new ∙ over.1;
      })

  pub aims-Look : (env : List AtomDef) → All (λ u. All (λ d. LooksAtKinds env (condition t d.question)) u.demands.items) us → All (λ a. LooksAtKinds env (condition t a.there)) aimed
  aims-Look env looks = All-from_slice_get (λ a. LooksAtKinds env (condition t a.there)) aimed (λ k a at.
      let row = AllZip-back (IsAimOf target) us aimed aims k a at in
      let is = row.2 in
      let all = All-slice_get (λ (u : Unwanted). All (λ (d : Demand). LooksAtKinds env (condition t d.question)) u.demands.items) us k row.0 looks row.1 in
      subst (λ q. LooksAtKinds env (condition t q)) (sym is.there) (All-slice_get (λ (d : Demand). LooksAtKinds env (condition t d.question)) row.0.demands.items target is.demand all is.stands))

-- ---- the question at the target

module _ (t : Table) where
  pub slot-IsDiagram : (s : Slot) (q : ℕ) → question_of s ≡ Some q → IsSlot t s → IsDiagram t q
  slot-IsDiagram (Optional r) q e is = subst (IsDiagram t) (some_same e) is
  slot-IsDiagram Absent q e is = absurd (none_some e)
  slot-IsDiagram (Present r) q e is = subst (IsDiagram t) (some_same e) is

  pub slot-Looks : (env : List AtomDef) (s : Slot) (q : ℕ) → question_of s ≡ Some q → SlotLooks env t s → LooksAtKinds env (condition t q)
  slot-Looks env (Optional r) q e is = subst (λ k. LooksAtKinds env (condition t k)) (some_same e) is
  slot-Looks env Absent q e is = absurd (none_some e)
  slot-Looks env (Present r) q e is = subst (λ k. LooksAtKinds env (condition t k)) (some_same e) is

  pub slot-has : (s : Slot) (q : ℕ) → question_of s ≡ Some q → condition_at (place_of t s) ≡ Some (condition t q)
  slot-has (Optional r) q e = ap (λ k. Some (condition t k)) (some_same e)
  slot-has Absent q e = absurd (none_some e)
  slot-has (Present r) q e = ap (λ k. Some (condition t k)) (some_same e)

  no_part_at : (env : List AtomDef) (s : Slot) → question_of s ≡ None → (y : Shape) → ¬ IsAt env (place_of t s) (Some y)
  no_part_at env (Optional r) e y h = none_some (sym e)
  no_part_at env Absent e y h = h
  no_part_at env (Present r) e y h = none_some (sym e)

  -- where the slot has no part nothing stands there
  pub absent-TellsStanding : (env : List AtomDef) (new : Table) (kept : List (ℕ × Option Shape)) (slots : List Slot) (target : ℕ) (s : Slot) (atoms : List (List Asking)) (found : Condition) (q : ℕ)
      → slice_get slots target ≡ Some s → question_of s ≡ None → Gives new found q → TellsStanding env new kept (places_of t slots) atoms target found (Parts q)
  absent-TellsStanding env new kept slots target s atoms found q at e gives =
      none-Gathers env new (StandsInFilling env (places_of t slots) atoms target) (HasHeldPart env new kept) found q gives
      (λ parts y h. absurd (no_part_at env s e y (h.fills.each target (place_of t s) (Some y) (map-at (place_of t) slots target s at) h.stands)))
