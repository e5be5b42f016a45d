-- What answers tell of a type, on the way to its filler.
use Rattle.std.specs.Prelude.{◌≡◌, ◌<◌, ◌↔◌, ℕ, Bool, IsSomeAnd, IsTrue, List, slice_get}
use Rattle.bal_base.specs.declared.shape.Shape.{Shape, Nil as NilShape}
use Rattle.type_model.specs.declared.atoms.AtomDef.{AtomDef}
use Rattle.type_model.specs.declared.basic.SemType.{SemType, Atom, Basic}
use Rattle.type_model.specs.declared.basic.Ty.{Ty}
use Rattle.type_model.specs.Defined.{NamesBelow}
use Rattle.type_model.specs.Inclusion.{HaveSameShapes, IsEmpty, IsShapeOf, Sub}
use Rattle.type_model.specs.Membership.{In}
use Rattle.value_model.specs.declared.filler.Filler.{Filler as FillerOf}
use Rattle.value_model.specs.declared.filler.Filler.TheVariants.{Mapping as NewMapping}
use Rattle.value_model.specs.Exact.{HasNoRequired, IsSimpleFiller}
use Rattle.list_fillers.specs.declared.candidate.Candidate.{Candidate}
use Rattle.list_fillers.specs.declared.candidate.Candidate.TheVariants.{OfList, Settled, Without}
use Rattle.list_fillers.specs.Candidates.{IsCandidate}
use Rattle.filler_tables.specs.declared.places.Made.{Made}
use Rattle.filler_tables.specs.declared.places.Made.TheVariants.{List as MadeList, Mapping as MadeMapping, Otherwise}
use Rattle.filler_tables.specs.declared.places.Place.{Place}
use Rattle.filler_tables.specs.declared.simple.Simple.{Simple}
use Rattle.filler_tables.specs.declared.simple.Simple.TheVariants.{Filled, Shapeless, Unfilled}
use Rattle.filler_tables.specs.declared.values.Kind.{Kind}
use Rattle.filler_tables.specs.Asked.{IsPlaceOf}
use Rattle.filler_tables.specs.Values.{alone_of}

-- the atom of a choice is there
abbrev pub MadeBelow : ℕ → Made → Type 0
MadeBelow n (MadeList a) = a < n
MadeBelow n (MadeMapping a) = a < n
MadeBelow n Otherwise = Unit {0}

abbrev pub PlaceBelow : ℕ → Place → Type 0
PlaceBelow n p = NamesBelow n p.sem × MadeBelow n p.made

module _ (env : List AtomDef) where
  abbrev pub LacksNil : SemType → Type 0
  LacksNil t = ¬ In env NilShape t

  -- it has this simple filler; or none, and a shape; or no shape
  abbrev pub IsSimple : SemType → Simple → Type 0
  IsSimple t (Filled f) = IsSimpleFiller env t f
  IsSimple t Unfilled = ((f : FillerOf) → ¬ IsSimpleFiller env t f) × ((x : Shape) × IsShapeOf env t x)
  IsSimple t Shapeless = IsEmpty env t

  -- the type is within the kind and has its first value
  abbrev pub IsAmong : SemType → Kind → Bool → Type 0
  IsAmong t k answer = IsTrue answer ↔ (Sub env t k.whole × Sub env (Basic (alone_of k.first)) t)

  abbrev pub IsOfShapes : SemType → ℕ → Bool → Type 0
  IsOfShapes t a answer = IsTrue answer ↔ HaveSameShapes env t (Atom a)

  abbrev pub LacksRequired : ℕ → Type 0
  LacksRequired a = IsSomeAnd (slice_get env a) (HasNoRequired env)

  -- a list or mapping of the atom fills it, but for a list's fixed places; or none does
  abbrev pub IsList : SemType → ℕ → Candidate → Type 0
  IsList t a (OfList b) = (b ≡ a) × HaveSameShapes env t (Atom a)
  IsList t a Without = ¬ HaveSameShapes env t (Atom a)
  IsList t a (Settled f) = ⊥

  abbrev pub IsMapping : SemType → ℕ → Candidate → Type 0
  IsMapping t a (Settled f) = (f ≡ NewMapping a) × HaveSameShapes env t (Atom a) × LacksRequired a
  IsMapping t a Without = ¬ (HaveSameShapes env t (Atom a) × LacksRequired a)
  IsMapping t a (OfList b) = ⊥

  abbrev pub IsMade : SemType → Made → Candidate → Type 0
  IsMade t (MadeList a) c = IsList t a c
  IsMade t (MadeMapping a) c = IsMapping t a c
  IsMade t Otherwise c = c ≡ Without

  -- the candidate of each type of which this is a place
  abbrev pub IsCandidateAt : Place → Candidate → Type 0
  IsCandidateAt p c = (t : Ty) → IsPlaceOf t p → IsCandidate env t c
