-- Which questions about types the fillers of lists lead to.
use Rattle.std.specs.Prelude.{◌≡◌, ◌⊎◌, ◌++◌, ℕ, List, [], ◌∷◌, Contains, IsSomeAnd, option_to_list, slice_get}
use Rattle.bal_base.specs.declared.shape.Shape.{Shape}
use Rattle.type_model.specs.declared.atoms.AtomDef.{AtomDef}
use Rattle.type_model.specs.declared.atoms.AtomDef.TheVariants.{List as ListAtom, Mapping as MappingAtom, Arrow, Error as ErrorAtom, Future as FutureAtom}
use Rattle.type_model.specs.declared.basic.BasicSet.TheVariants as set
use Rattle.type_model.specs.declared.basic.Choice.{Choice}
use Rattle.type_model.specs.declared.basic.SemType.{SemType, Atom, Basic}
use Rattle.type_model.specs.declared.basic.Ty.{Ty}
use Rattle.type_model.specs.Calls.{Alone, Asked, Without}
use Rattle.type_model.specs.Inclusion.{IsShapeOf}
use Rattle.type_model.specs.SameType.{IsSameType}
use Rattle.value_model.specs.declared.filler.Filler.{Filler}
use Rattle.filler_tables.specs.declared.places.Made.{Made}
use Rattle.filler_tables.specs.declared.places.Made.TheVariants.{List as MadeList, Mapping as MadeMapping, Otherwise}
use Rattle.filler_tables.specs.declared.places.Place.{Place}
use Rattle.filler_tables.specs.declared.values.Kind.{Kind}
use Rattle.filler_tables.specs.declared.values.Sample.TheVariants.{Value}
use Rattle.filler_tables.specs.Values.{IsKindOf, alone_of, sample_of_shape}

-- ---- places

-- the atom of the one constructor choice of a type, where it has just one
abbrev pub made_of : List Choice → List Choice → Made
made_of [] [] = Otherwise
made_of [] (c ∷ []) = MadeMapping c.atom
made_of [] (c ∷ d ∷ ds) = Otherwise
made_of (c ∷ []) [] = MadeList c.atom
made_of (c ∷ []) (d ∷ ds) = Otherwise
made_of (c ∷ d ∷ ds) ms = Otherwise

-- another handle of the type, with the atom of its one choice
abbrev pub IsPlaceOf : Ty → Place → Type 0
IsPlaceOf t p = IsSameType t.sem p.sem × (p.made ≡ made_of t.lists t.maps)

-- the types of the places of an atom of lists: of its fixed ones, and then of its rest; other atoms have none
abbrev pub place_types : AtomDef → List Ty
place_types (ListAtom fixed rest) = fixed ++ option_to_list rest
place_types (MappingAtom fields rest) = []
place_types (Arrow args outcome alone) = []
place_types (ErrorAtom detail) = []
place_types (FutureAtom outcome) = []

-- ---- questions

-- whether the type is within all values of a kind, and whether it has the first of them
abbrev pub AsksKind : SemType → Kind → Asked → Type 0
AsksKind t k asked = (asked ≡ Without t k.whole) ⊎ (asked ≡ Without (Basic (alone_of k.first)) t)

-- whether it has this value alone, and then the same of the value's kind
abbrev pub AsksValue : SemType → Filler → Asked → Type 0
AsksValue t own asked = (asked ≡ Without t (Basic (alone_of own))) ⊎ ((k : Kind) × IsKindOf own k × AsksKind t k asked)

-- whether it has exactly the shapes of an atom
abbrev pub AsksAtom : SemType → ℕ → Asked → Type 0
AsksAtom t a asked = (asked ≡ Without t (Atom a)) ⊎ (asked ≡ Without (Atom a) t)

abbrev pub AsksMade : SemType → Made → Asked → Type 0
AsksMade t (MadeList a) asked = AsksAtom t a asked
AsksMade t (MadeMapping a) asked = AsksAtom t a asked
AsksMade t Otherwise asked = ⊥

module _ (env : List AtomDef) where
  -- for a shape of the type, and then what it is
  abbrev pub AsksShape : SemType → Asked → Type 0
  AsksShape t asked =
      (asked ≡ Alone t) ⊎ ((x : Shape) × (own : Filler) × IsShapeOf env t x × (sample_of_shape x ≡ Value own) × AsksValue t own asked)

  -- whether it has nil, and then for a shape
  abbrev pub AsksSimple : SemType → Asked → Type 0
  AsksSimple t asked = (asked ≡ Without (Basic set.Nil) t) ⊎ AsksShape t asked

  abbrev pub AsksPlace : Place → Asked → Type 0
  AsksPlace p asked = AsksSimple p.sem asked ⊎ AsksMade p.sem p.made asked

  -- one of these places
  abbrev pub AsksPlaces : List Place → Asked → Type 0
  AsksPlaces ps asked = (p : Place) × Contains ps p × AsksPlace p asked

  -- of a place of the atom's lists
  abbrev pub AsksOfAtom : ℕ → Asked → Type 0
  AsksOfAtom a asked =
      IsSomeAnd (slice_get env a) (λ d. (t : Ty) × Contains (place_types d) t × ((p : Place) × IsPlaceOf t p × AsksPlace p asked))

  -- of some atom
  abbrev pub AsksFillers : Asked → Type 0
  AsksFillers asked = (a : ℕ) × AsksOfAtom a asked
