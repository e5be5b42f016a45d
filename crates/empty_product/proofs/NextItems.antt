-- What stands in lists of some lengths, and then in those of others; and at some places, and then at the next.
use Rattle.std.proofs.Common.{◌≡◌, ◌⊎◌, ⊎_elim, inl, inr, ℕ, ◌+◌, ◌<◌, ◌≤◌, List, length, All, Option, subst, arith}
use Rattle.bal_base.specs.declared.shape.Shape.{Shape}
use Rattle.bal_base.specs.Valid.{IsValid}
use Rattle.type_model.specs.declared.atoms.AtomDef.{AtomDef}
use Rattle.type_diagrams.specs.declared.projection.Projection.{Projection}
use Rattle.type_diagrams.specs.declared.projection.Projection.TheVariants.{Parts, Ask}
use Rattle.type_diagrams.specs.Conditions.{Condition}
use Rattle.type_diagrams.specs.Tables.{Table, condition}
use Rattle.type_diagrams.specs.Turns.{IsSound}
use Rattle.type_diagrams.specs.Whole.{Keeps}
use Rattle.empty_product.specs.Items.{StandsBefore, StandsInList, TellsListsAt, TellsListsBefore}
use Rattle.empty_product.specs.Lists.{HasHeldItem}
use Rattle.empty_product.proofs.AtomLists.{order}
use Rattle.empty_product.proofs.Gathering.{next-Gathers}
use Rattle.empty_product.proofs.ItemLists.{HasHeldItem-keeps}

module _ (env : List AtomDef) (base : ℕ → Condition) (old mid new : Table) (kept : List (ℕ × Option Shape)) (sound : All (IsSound env old) kept) (first : Keeps old mid) (last : Keeps old new)
    (wanted unwanted : List ℕ) (found : Condition) (p : ℕ) where
  abbrev At : (ℕ → Type 0) → ℕ → List Shape → Shape → Type 0
  At IsLength place = StandsInList env base wanted unwanted IsLength place

  abbrev Before : (ℕ → Type 0) → ℕ → List Shape → Shape → Type 0
  Before IsLength places = StandsBefore env base wanted unwanted IsLength places

  -- what stands in a list is valid
  standing-IsValid : (IsLength : ℕ → Type 0) (place : ℕ) (items : List Shape) (y : Shape) → At IsLength place items y → IsValid y
  standing-IsValid IsLength place items y s = (s.list.inside place y s.stands).0

  of-length : (P Q : ℕ → Type 0) (place : ℕ) (items : List Shape) (y : Shape) → At P place items y → Q (length items) → At Q place items y
  of-length P Q place items y s count = record { count = count; list = s.list; stands = s.stands }

  pub more-TellsListsAt : (IsFirst IsNext IsBoth : ℕ → Type 0) (place : ℕ) → ((n : ℕ) → IsFirst n → IsBoth n) → ((n : ℕ) → IsNext n → IsBoth n) → ((n : ℕ) → IsBoth n → IsFirst n ⊎ IsNext n)
      → TellsListsAt env base mid kept wanted unwanted IsFirst place found (Parts p) → (r : Projection) → TellsListsAt env base new kept wanted unwanted IsNext place (condition mid p) r → TellsListsAt env base new kept wanted unwanted IsBoth place found r
  more-TellsListsAt IsFirst IsNext IsBoth place one other either before (Parts q) h =
      next-Gathers env mid new (At IsFirst place) (At IsNext place) (At IsBoth place) (HasHeldItem env mid kept) (HasHeldItem env new kept) found p q
      (HasHeldItem-keeps env old mid new kept sound first last)
      (λ items y s. (standing-IsValid IsFirst place items y s, of-length IsFirst IsBoth place items y s (one (length items) s.count)))
      (λ items y s. of-length IsNext IsBoth place items y s (other (length items) s.count))
      (λ items y s. ⊎_elim
      (λ (a : IsFirst (length items)). inl (of-length IsBoth IsFirst place items y s a))
      (λ (b : IsNext (length items)). inr (of-length IsBoth IsNext place items y s b))
      (either (length items) s.count))
      before h
  more-TellsListsAt IsFirst IsNext IsBoth place one other either before (Ask q) h = h

  pub next-TellsListsBefore : (IsLength : ℕ → Type 0) (places : ℕ) → TellsListsBefore env base mid kept wanted unwanted IsLength places found (Parts p) → (r : Projection) → TellsListsAt env base new kept wanted unwanted IsLength places (condition mid p) r
      → TellsListsBefore env base new kept wanted unwanted IsLength (places + 1) found r
  next-TellsListsBefore IsLength places before (Parts q) h =
      next-Gathers env mid new (Before IsLength places) (At IsLength places) (Before IsLength (places + 1)) (HasHeldItem env mid kept) (HasHeldItem env new kept) found p q
      (HasHeldItem-keeps env old mid new kept sound first last)
      (λ items y s. let lt = s.before in (standing-IsValid IsLength s.place items y s.in_list, record { place = s.place; before = omega (arith, lt); in_list = s.in_list }))
      (λ items y s. record { place = places; before = omega arith; in_list = s })
      (λ items y s. ⊎_elim
      (λ (lt : s.place < places). inl (record { place = s.place; before = lt; in_list = s.in_list }))
      (λ (le : places ≤ s.place). let lt = s.before in let same : s.place ≡ places = omega (arith, le, lt) in inr (subst (λ k. At IsLength k items y) same s.in_list))
      (order s.place places))
      before h
  next-TellsListsBefore IsLength places before (Ask q) h = h
