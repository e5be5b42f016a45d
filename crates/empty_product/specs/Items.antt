-- What stands at a place of lists.
use Rattle.std.specs.Prelude.{◌≡◌, ◌<◌, ◌^◌, ⊤, ℕ, List, Contains, Option, Some, None, length, slice_get}
use Rattle.bal_base.specs.declared.shape.Shape.{Shape}
use Rattle.type_model.specs.declared.atoms.AtomDef.{AtomDef}
use Rattle.type_diagrams.specs.declared.projection.Projection.{Projection}
use Rattle.type_diagrams.specs.declared.projection.Projection.TheVariants.{Parts, Ask}
use Rattle.type_diagrams.specs.Conditions.{Condition, IsShapeOf, LooksAtKinds, nothing}
use Rattle.type_diagrams.specs.Tables.{Table, IsDiagram, condition}
use Rattle.empty_product.specs.Lists.{AreWithout, AvoidAll, HasHeldItem, IsItemQuestion}
use Rattle.empty_product.specs.Standing.{Gathers}

module _ (env : List AtomDef) (base : ℕ → Condition) where
  -- the item stands at the place of so many items, by which each atom is avoided
  pub record StandsInItems (IsLength : ℕ → Type 0) (atoms : List ℕ) (place : ℕ) (items : List Shape) (y : Shape) : Type 0 where
    pub all : AvoidAll env base IsLength atoms items
    pub stands : slice_get items place ≡ Some y

  -- the item stands at the place of a list of some lengths, that is in all wanted atoms and in no unwanted one
  pub record StandsInList (wanted unwanted : List ℕ) (IsLength : ℕ → Type 0) (place : ℕ) (items : List Shape) (y : Shape) : Type 0 where
    pub count : IsLength (length items)
    pub list : AreWithout env base wanted unwanted items
    pub stands : slice_get items place ≡ Some y

  -- and so at one of the first places
  pub record StandsBefore (wanted unwanted : List ℕ) (IsLength : ℕ → Type 0) (places : ℕ) (items : List Shape) (y : Shape) : Type 0 where
    pub place : ℕ
    pub before : place < places
    pub in_list : StandsInList wanted unwanted IsLength place items y

module _ (env : List AtomDef) (base : ℕ → Condition) (table : Table) (kept : List (ℕ × Option Shape)) where
  -- of so many items, by which each atom is avoided
  abbrev pub TellsItemsAt : (ℕ → Type 0) → List ℕ → ℕ → Condition → Projection → Type 0
  TellsItemsAt IsLength atoms place found (Parts q) = Gathers env table (StandsInItems env base IsLength atoms place) (HasHeldItem env table kept) found q
  TellsItemsAt IsLength atoms place found (Ask q) = IsItemQuestion env base table kept atoms q

  -- of lists of some lengths
  abbrev pub TellsListsAt : List ℕ → List ℕ → (ℕ → Type 0) → ℕ → Condition → Projection → Type 0
  TellsListsAt wanted unwanted IsLength place found (Parts q) = Gathers env table (StandsInList env base wanted unwanted IsLength place) (HasHeldItem env table kept) found q
  TellsListsAt wanted unwanted IsLength place found (Ask q) = IsItemQuestion env base table kept unwanted q

  -- of lists of some lengths, at the first places
  abbrev pub TellsListsBefore : List ℕ → List ℕ → (ℕ → Type 0) → ℕ → Condition → Projection → Type 0
  TellsListsBefore wanted unwanted IsLength places found (Parts q) = Gathers env table (StandsBefore env base wanted unwanted IsLength places) (HasHeldItem env table kept) found q
  TellsListsBefore wanted unwanted IsLength places found (Ask q) = IsItemQuestion env base table kept unwanted q

-- ---- at an index, or at any

abbrev pub IsAtIndex : Option ℕ → List Shape → Shape → Type 0
IsAtIndex (Some index) items y = slice_get items index ≡ Some y
IsAtIndex None items y = Contains items y

-- the item stands there in a list that is in all wanted atoms and in no unwanted one
pub record StandsAtIndex (env : List AtomDef) (base : ℕ → Condition) (wanted unwanted : List ℕ) (index : Option ℕ) (items : List Shape) (y : Shape) : Type 0 where
  pub short : length items < 2 ^ 63
  pub list : AreWithout env base wanted unwanted items
  pub stands : IsAtIndex index items y

module _ (env : List AtomDef) (base : ℕ → Condition) (table : Table) (kept : List (ℕ × Option Shape)) (wanted unwanted : List ℕ) (index : Option ℕ) where
  abbrev pub TellsIndex : Projection → Type 0
  TellsIndex (Parts q) = Gathers env table (StandsAtIndex env base wanted unwanted index) (HasHeldItem env table kept) nothing q
  TellsIndex (Ask q) = IsItemQuestion env base table kept unwanted q

-- a diagram that looks at the mark and at atoms of each kind alone
pub record IsLooking (env : List AtomDef) (table : Table) (question : ℕ) : Type 0 where
  pub diagram : IsDiagram table question
  pub looks : LooksAtKinds env (condition table question)

abbrev pub GivesLooking : List AtomDef → Table → Projection → Type 0
GivesLooking env table (Parts question) = IsLooking env table question
GivesLooking env table (Ask question) = ⊤

-- some shape meets the condition
abbrev pub HasShape : List AtomDef → Condition → Type 0
HasShape env c = (x : Shape) × IsShapeOf env c x
