-- Lists by their items, and what is told of them against a table of questions.
use Rattle.std.specs.Prelude.{◌≡◌, ◌<◌, ◌≤◌, ◌++◌, ℕ, List, [], ◌∷◌, map, length, All, Contains, Bool, false, Option, Some, slice_get, if◌then◌else◌, ⊤}
use Rattle.bal_base.specs.declared.shape.Shape.{Shape, List as AList}
use Rattle.bal_base.specs.declared.shape.Shapes.{Shapes}
use Rattle.bal_base.specs.Shapes.{shapes_list}
use Rattle.type_model.specs.declared.atoms.AtomDef.{AtomDef}
use Rattle.type_diagrams.specs.declared.turn.Turn.{Turn}
use Rattle.type_diagrams.specs.declared.turn.Turn.TheVariants.{Shape as Found, Empty as NoShape, Ask as AskTable}
use Rattle.type_diagrams.specs.Conditions.{Condition, AreOne, IsShapeOf, IsNothing, Meets, asks, and_of, frozen}
use Rattle.type_diagrams.specs.Kept.{IsUnknown}
use Rattle.type_diagrams.specs.Members.{AllowsLength, Fixes, item_of}
use Rattle.type_diagrams.specs.Tables.{Table, IsDiagram, condition}
use Rattle.type_diagrams.specs.Whole.{Gives}
use Rattle.empty_product.specs.declared.avoid.Filling.{Filling}
use Rattle.empty_product.specs.declared.avoid.Filling.TheVariants.{Parts, Empty, Ask}
use Rattle.empty_product.specs.declared.slots.Demand.{Demand}
use Rattle.empty_product.specs.declared.slots.Unwanted.{Unwanted}
use Rattle.empty_product.specs.Slots.{IsInHeld}

-- these are the diagrams of what is asked at the first places
abbrev pub AreAsked : Table → (ℕ → Condition) → List ℕ → Type 0
AreAsked table base bases = (place q : ℕ) → slice_get bases place ≡ Some q → Gives table (base place) q

-- behind this place all ask the same
abbrev pub IsSameFrom : ℕ → (ℕ → Condition) → Type 0
IsSameFrom n base = (place : ℕ) → n ≤ place → base place ≡ base n

module _ (env : List AtomDef) where
  -- what is asked of the item at a place: what each wanted atom asks, and that it is frozen where the lists
  -- are marked
  abbrev pub item_asked : List ℕ → Bool → ℕ → Condition
  item_asked wanted marked place = asks (map (item_of env place) wanted ++ (if marked then frozen ∷ [] else [])) []

  -- all places that the list atom fixes are before this one
  abbrev pub FixesBefore : ℕ → ℕ → Type 0
  FixesBefore n a = (place : ℕ) → Fixes env place a → place < n

  -- a list with these items is in the list atom
  pub record IsInAtom (a : ℕ) (items : List Shape) : Type 0 where
    pub allowed : AllowsLength env (length items) a
    pub each : (place : ℕ) (x : Shape) → slice_get items place ≡ Some x → Meets env (item_of env place a) x

  -- an item is outside what the list atom asks at its place
  pub record AvoidsItem (a : ℕ) (items : List Shape) : Type 0 where
    pub place : ℕ
    pub item : Shape
    pub stands : slice_get items place ≡ Some item
    pub avoids : ¬ Meets env (item_of env place a) item

  -- one of the items is in a question that the table of questions holds to be empty
  pub record HasHeldItem (table : Table) (kept : List (ℕ × Option Shape)) (items : List Shape) : Type 0 where
    pub item : Shape
    pub among : Contains items item
    pub held : IsInHeld env table kept item

  -- the atom's demands at so many places
  pub record IsDemandOf (table : Table) (places a : ℕ) (demands : List Demand) : Type 0 where
    pub count : length demands ≡ places
    pub each : (place : ℕ) (d : Demand) → slice_get demands place ≡ Some d → Gives table (item_of env place a) d.question × (d.required ≡ false)

  -- the demands of all these atoms
  pub record AreDemandsOf (table : Table) (places : ℕ) (atoms : List ℕ) (us : List Unwanted) : Type 0 where
    pub all : All (λ a. (u : Unwanted) × Contains us u × IsDemandOf table places a u.demands.items) atoms
    pub only : All (λ u. (a : ℕ) × Contains atoms a × IsDemandOf table places a u.demands.items) us

  -- at one of the places the atom is plainly apart from what is asked there
  abbrev pub IsApartFrom : Table → List ℕ → ℕ → Type 0
  IsApartFrom table questions a =
      (place : ℕ) × (q : ℕ) × (slice_get questions place ≡ Some q) × IsNothing (and_of (item_of env place a) (condition table q))

module _ (env : List AtomDef) (base : ℕ → Condition) where
  -- each item is as is asked at its place
  abbrev pub AreItems : List Shape → Type 0
  AreItems items = (place : ℕ) (x : Shape) → slice_get items place ≡ Some x → IsShapeOf env (base place) x

  -- so many items, by which each atom is avoided
  pub record AvoidAll (IsLength : ℕ → Type 0) (atoms : List ℕ) (items : List Shape) : Type 0 where
    pub count : IsLength (length items)
    pub inside : AreItems items
    pub avoiding : All (λ a. AvoidsItem env a items) atoms

  -- the items of a list as long as each wanted atom allows, that is in no unwanted one
  pub record AreWithout (wanted unwanted : List ℕ) (items : List Shape) : Type 0 where
    pub allowed : All (AllowsLength env (length items)) wanted
    pub inside : AreItems items
    pub outside : All (λ a. ¬ IsInAtom env a items) unwanted

  -- a question about the item at a place: what is asked there, without what some of the atoms ask
  pub record AsksItem (atoms : List ℕ) (d : Condition) : Type 0 where
    pub place : ℕ
    pub avoided : List ℕ
    pub among : All (Contains atoms) avoided
    pub asked : AreOne d (asks (base place ∷ []) (map (item_of env place) avoided))

module _ (env : List AtomDef) (base : ℕ → Condition) (table : Table) (kept : List (ℕ × Option Shape)) where
  -- such a question that the table doesn't know, and that isn't the one for no shape
  pub record IsItemQuestion (atoms : List ℕ) (q : ℕ) : Type 0 where
    pub diagram : IsDiagram table q
    pub unknown : IsUnknown kept q
    pub some : ¬ IsNothing (condition table q)
    pub asks_item : AsksItem env base atoms (condition table q)

  -- of lists of some lengths, by whose items each atom is avoided
  abbrev pub TellsItems : (ℕ → Type 0) → List ℕ → Filling → Type 0
  TellsItems IsLength atoms (Parts parts) = (items : List Shape) × (parts.items ≡ map Some items) × AvoidAll env base IsLength atoms items
  TellsItems IsLength atoms Empty = (items : List Shape) → AvoidAll env base IsLength atoms items → HasHeldItem env table kept items
  TellsItems IsLength atoms (Ask q) = IsItemQuestion atoms q

  -- of lists of some lengths that are in all wanted atoms and in no unwanted one
  abbrev pub TellsLists : List ℕ → List ℕ → (ℕ → Type 0) → Filling → Type 0
  TellsLists wanted unwanted IsLength (Parts parts) =
      (items : List Shape) × (parts.items ≡ map Some items) × AreWithout env base wanted unwanted items
  TellsLists wanted unwanted IsLength Empty =
      (items : List Shape) → IsLength (length items) → AreWithout env base wanted unwanted items → HasHeldItem env table kept items
  TellsLists wanted unwanted IsLength (Ask q) = IsItemQuestion unwanted q

-- those of the atoms of which P holds
pub record AreThose (P : ℕ → Type 0) (atoms found : List ℕ) : Type 0 where
  pub among : All (λ a. Contains atoms a × P a) found
  pub others : All (λ a. P a → Contains found a) atoms

-- all places have a part
abbrev pub IsFilled : Filling → Type 0
IsFilled (Parts parts) = (items : List Shape) × (parts.items ≡ map Some items)
IsFilled Empty = ⊤
IsFilled (Ask q) = ⊤

-- these are the parts
abbrev pub IsFilledWith : List (Option Shape) → Filling → Type 0
IsFilledWith found (Parts parts) = parts.items ≡ found
IsFilledWith found Empty = ⊥
IsFilledWith found (Ask q) = ⊥

-- what is said of the path is what is told of its lists
abbrev pub IsListTurn : Bool → Filling → Turn → Type 0
IsListTurn mark (Parts parts) (Found x) = (items : Shapes) × (x ≡ AList mark items) × (parts.items ≡ map Some (shapes_list items))
IsListTurn mark (Parts parts) NoShape = ⊥
IsListTurn mark (Parts parts) (AskTable q) = ⊥
IsListTurn mark Empty (Found x) = ⊥
IsListTurn mark Empty NoShape = ⊤
IsListTurn mark Empty (AskTable q) = ⊥
IsListTurn mark (Ask p) (Found x) = ⊥
IsListTurn mark (Ask p) NoShape = ⊥
IsListTurn mark (Ask p) (AskTable q) = p ≡ q
