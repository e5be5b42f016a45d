-- When a table of tests is exact: its answers say what they should of types, and its fillers are those of the places.
use Rattle.std.specs.Prelude.{◌≡◌, ◌⊎◌, ◌↔◌, ℕ, zero, suc, pos, Bool, false, List, [], ◌∷◌, ◌++◌, IsSomeAnd, IsTrue, All, slice_get, ℤ, option_to_list}
use Rattle.std.specs.List.{AllZip}
use Rattle.bal_base.specs.declared.text.Text.{Text}
use Rattle.bal_base.specs.declared.shape.Shape.{Shape, Nil as NilShape, Bool as BoolShape, Int as IntShape, Str as StrShape}
use Rattle.bal_base.specs.Valid.{IsValid}
use Rattle.type_model.specs.declared.basic.SemType.{SemType, Atom}
use Rattle.type_model.specs.declared.basic.Ty.{Ty}
use Rattle.type_model.specs.declared.basic.Choice.{Choice}
use Rattle.type_model.specs.declared.atoms.AtomDef.{AtomDef}
use Rattle.type_model.specs.declared.atoms.AtomDef.TheVariants.{List as ListAtom, Mapping as MappingAtom, Arrow, Error as ErrorAtom, Future as FutureAtom}
use Rattle.type_model.specs.Membership.{In}
use Rattle.type_model.specs.Inclusion.{IsShapeOf, HasExactly, HaveSameShapes}
use Rattle.value_model.specs.declared.filler.Filler.{Filler}
use Rattle.value_model.specs.declared.filler.Filler.TheVariants.{Nothing, Nil, Bool as Truth, Int, Str, List as NewList, Mapping as NewMapping}
use Rattle.value_model.specs.Stands.{IsUnmarked}

module _ (atoms : List AtomDef) where
  -- ---- answers

  -- every shape that a value of the atom may stand for is in the type
  abbrev pub IsWithinType : ℕ → SemType → Type 0
  IsWithinType a t = (s : Shape) → IsValid s → IsUnmarked s → In atoms s (Atom a) → In atoms s t

  abbrev pub IsExactAnswer : ℕ → SemType → Bool → Type 0
  IsExactAnswer a t answer = IsTrue answer ↔ IsWithinType a t

  -- ---- fillers

  -- the type has the shape and no other
  abbrev pub IsOnly : SemType → Shape → Type 0
  IsOnly t s = IsShapeOf atoms t s × HasExactly atoms t (λ x. x ≡ s)

  -- all shapes of the type are of one kind, and this is one of them
  abbrev pub HasAmong : (Shape → Type 0) → SemType → Shape → Type 0
  HasAmong Kind t s = ((x : Shape) → IsShapeOf atoms t x → Kind x) × In atoms s t

  -- nil where the type has it; the value of a type that has one simple value alone; `false`, `0` or `""` where the type has
  -- it and only booleans, ints or strings
  abbrev pub IsSimpleFiller : SemType → Filler → Type 0
  IsSimpleFiller t Nothing = ⊥
  IsSimpleFiller t Nil = In atoms NilShape t
  IsSimpleFiller t (Truth b) =
      IsOnly t (BoolShape b) ⊎ ((b ≡ false) × HasAmong (λ x. (c : Bool) × (x ≡ BoolShape c)) t (BoolShape false))
  IsSimpleFiller t (Int i) =
      IsOnly t (IntShape i) ⊎ ((i ≡ pos 0) × HasAmong (λ x. (j : ℤ) × (x ≡ IntShape j)) t (IntShape (pos 0)))
  IsSimpleFiller t (Str s) =
      IsOnly t (StrShape s) ⊎ ((s ≡ []) × HasAmong (λ x. (u : Text) × (x ≡ StrShape u)) t (StrShape []))
  IsSimpleFiller t (NewList a) = ⊥
  IsSimpleFiller t (NewMapping a) = ⊥

  -- the type has a shape, the atom is its one constructor choice, and it has exactly the atom's shapes
  abbrev pub IsOfAtom : Ty → List Choice → List Choice → ℕ → Type 0
  IsOfAtom t own other a =
      ((x : Shape) × IsShapeOf atoms t.sem x) × ((c : Choice) × (own ≡ c ∷ []) × (c.atom ≡ a)) × (other ≡ [])
      × HaveSameShapes atoms t.sem (Atom a)

  -- an atom of lists each of whose fixed places has something
  abbrev pub HasPlaces : (Ty → Type 0) → AtomDef → Type 0
  HasPlaces P (ListAtom fixed rest) = All P fixed
  HasPlaces P (MappingAtom fields rest) = ⊥
  HasPlaces P (Arrow args outcome alone) = ⊥
  HasPlaces P (ErrorAtom detail) = ⊥
  HasPlaces P (FutureAtom outcome) = ⊥

  -- an atom of mappings without required fields
  abbrev pub HasNoRequired : AtomDef → Type 0
  HasNoRequired (MappingAtom fields rest) = All (λ f. IsTrue f.optional) fields
  HasNoRequired (ListAtom fixed rest) = ⊥
  HasNoRequired (Arrow args outcome alone) = ⊥
  HasNoRequired (ErrorAtom detail) = ⊥
  HasNoRequired (FutureAtom outcome) = ⊥

  -- the type is that of a new list whose fixed places all have something, or that of a new empty mapping
  abbrev pub IsNewFiller : (Ty → Type 0) → Ty → Filler → Type 0
  IsNewFiller P t Nothing = ⊥
  IsNewFiller P t Nil = ⊥
  IsNewFiller P t (Truth b) = ⊥
  IsNewFiller P t (Int i) = ⊥
  IsNewFiller P t (Str s) = ⊥
  IsNewFiller P t (NewList a) = IsOfAtom t t.lists t.maps a × IsSomeAnd (slice_get atoms a) (HasPlaces P)
  IsNewFiller P t (NewMapping a) = IsOfAtom t t.maps t.lists a × IsSomeAnd (slice_get atoms a) HasNoRequired

  -- a filler of the type, with lists inside one another at most so many times; no type has two fillers
  abbrev pub IsFillerWithin : ℕ → Ty → Filler → Type 0
  IsFillerWithin zero t f = IsSimpleFiller t.sem f
  IsFillerWithin (suc n) t f =
      IsSimpleFiller t.sem f ⊎ IsNewFiller (λ u. (g : Filler) × IsFillerWithin n u g) t f

  abbrev pub IsFiller : Ty → Filler → Type 0
  IsFiller t f = (n : ℕ) × IsFillerWithin n t f

  -- the filler of the type, or that there is none
  abbrev pub Fills : Ty → Filler → Type 0
  Fills t Nothing = (f : Filler) → ¬ IsFiller t f
  Fills t Nil = IsFiller t Nil
  Fills t (Truth b) = IsFiller t (Truth b)
  Fills t (Int i) = IsFiller t (Int i)
  Fills t (Str s) = IsFiller t (Str s)
  Fills t (NewList a) = IsFiller t (NewList a)
  Fills t (NewMapping a) = IsFiller t (NewMapping a)

  -- the fillers of an atom of lists: of each fixed place, and then of the rest; other atoms have none
  abbrev pub AreFillers : AtomDef → List Filler → Type 0
  AreFillers (ListAtom fixed rest) fillers = AllZip Fills (fixed ++ option_to_list rest) fillers
  AreFillers (MappingAtom fields rest) fillers = fillers ≡ []
  AreFillers (Arrow args outcome alone) fillers = fillers ≡ []
  AreFillers (ErrorAtom detail) fillers = fillers ≡ []
  AreFillers (FutureAtom outcome) fillers = fillers ≡ []

  -- ---- the table

  -- for each inherent atom, the answer for each tested type
  abbrev pub AnswersExactly : List SemType → ℕ → List Bool → Type 0
  AnswersExactly tested a answers = AllZip (IsExactAnswer a) tested answers

  abbrev pub FillsExactly : ℕ → List Filler → Type 0
  FillsExactly a fillers = IsSomeAnd (slice_get atoms a) (λ d. AreFillers d fillers)
