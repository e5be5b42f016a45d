-- The typing rows of what makes lists, mappings and errors, of waits, and of reads and stores.
use Rattle.std.specs.Prelude.{◌≡◌, ◌⊎◌, ℕ, ◌+◌, List, [], ◌∷◌, length, All, Any, Bool, Option, Some, None, IsSomeAnd, slice_get, IsTrue, IsSome, ⊤}
use Rattle.bal_base.specs.declared.text.Text.{Text}
use Rattle.bal_base.specs.declared.shape.Shape.{Shape, Str}
use Rattle.type_model.specs.declared.basic.SemType.{SemType, Atom}
use Rattle.type_model.specs.declared.basic.Ty.{Ty}
use Rattle.type_model.specs.declared.answers.Keys.TheVariants.{Results}
use Rattle.type_model.specs.declared.atoms.FieldDef.{FieldDef}
use Rattle.type_model.specs.declared.atoms.AtomDef.{AtomDef}
use Rattle.type_model.specs.declared.atoms.AtomDef.TheVariants.{List as ListAtom, Mapping as MappingAtom, Arrow, Error as ErrorAtom, Future as FutureAtom}
use Rattle.type_model.specs.Inclusion.{IsShapeOf}
use Rattle.type_model.specs.Membership.{In}
use Rattle.type_model.specs.Parts.{StandsAt}
use Rattle.type_model.specs.Places.{item_type, key_type}
use Rattle.operations.specs.Kinds.{IsError, IsFuture, IsImmutableData, IsReadonly}
use Rattle.operations.specs.Rows.{IsSingle, IsWithin, ResultHas, Surroundings}

module _ (env : List AtomDef) where
  -- ---- constructors

  -- the definition of an atom of lists, and of one of mappings
  abbrev pub IsListAtom : ℕ → (List Ty → Option Ty → Type 0) → Type 0
  IsListAtom atom P = IsSomeAnd (slice_get env atom) by
    where
      by : AtomDef → Type 0
      by (ListAtom fixed rest) = P fixed rest
      by (MappingAtom fields rest) = ⊥
      by (Arrow args outcome alone) = ⊥
      by (ErrorAtom detail) = ⊥
      by (FutureAtom outcome) = ⊥

  abbrev pub IsMappingAtom : ℕ → (List FieldDef → Option Ty → Type 0) → Type 0
  IsMappingAtom atom P = IsSomeAnd (slice_get env atom) by
    where
      by : AtomDef → Type 0
      by (MappingAtom fields rest) = P fields rest
      by (ListAtom fixed rest) = ⊥
      by (Arrow args outcome alone) = ⊥
      by (ErrorAtom detail) = ⊥
      by (FutureAtom outcome) = ⊥

  -- each of these, from the place k on, is below the type of its place
  abbrev pub ItemsFit : List SemType → ℕ → List Ty → Option Ty → Type 0
  ItemsFit [] k fixed rest = ⊤
  ItemsFit (s ∷ more) k fixed rest =
      IsSomeAnd (item_type fixed rest k) (λ t. IsWithin env (λ x. In env x t.sem) s) × ItemsFit more (k + 1) fixed rest

  -- each value is in the type of each key that its key may be
  abbrev pub MemberFits : List FieldDef → Option Ty → SemType × SemType → Type 0
  MemberFits fields rest m =
      (key : Text) → IsShapeOf env m.0 (Str key) → IsWithin env (λ x. IsSomeAnd (key_type fields rest key) (λ t. In env x t.sem)) m.1

  -- each required field is there: some key has its name as its single string
  abbrev pub NamesRequired : List FieldDef → List (SemType × SemType) → Type 0
  NamesRequired fields members = All (λ f. IsTrue f.optional ⊎ Any (λ m. IsSingle env m.0 (Str f.name)) members) fields

  -- what an immutable structure holds is immutable itself
  abbrev pub MayStandIn : Bool → SemType → Type 0
  MayStandIn immutable t = IsTrue immutable → IsWithin env IsImmutableData t

  -- a structure of this atom, an immutable one where so marked
  abbrev pub IsMade : ℕ → Bool → Shape → Type 0
  IsMade atom immutable x = In env x (Atom atom) × (IsTrue immutable → IsReadonly x)

  -- an error's detail has a member for the key of each pair, and each member is of some pair: where a key comes twice its last
  -- value stands
  abbrev pub IsDetailOf : List (SemType × SemType) → List (Text × Shape) → Type 0
  IsDetailOf pairs members =
      All (λ m. Any (λ p. In env (Str m.0) p.0 × In env m.1 p.1) pairs) members
      × All (λ p. Any (λ m. In env (Str m.0) p.0) members) pairs

  -- ---- waits

  -- what one name of a wait may give: the result of a worker, or a result of a future or an error
  abbrev pub GivenByWorker : Surroundings → ℕ → Shape → Type 0
  GivenByWorker place worker x = IsSomeAnd (slice_get place.workers worker) (λ t. In env x t)

  abbrev pub GivenByFuture : SemType → Shape → Type 0
  GivenByFuture t x = StandsAt env t Results x ⊎ IsError x

  -- the named awaited workers and futures are there, where the futures are operands, in order; `each` says of what
  -- each may give what is asked of it, from the place k on
  abbrev pub AwaitsEach : Surroundings → (ℕ → (Shape → Type 0) → Type 0) → ℕ → List (Option ℕ) → List SemType → Type 0
  AwaitsEach place each k [] [] = ⊤
  AwaitsEach place each k [] (t ∷ more) = ⊥
  AwaitsEach place each k (Some w ∷ names) operands =
      IsSome (slice_get place.workers w) × each k (GivenByWorker place w) × AwaitsEach place each (k + 1) names operands
  AwaitsEach place each k (None ∷ names) (t ∷ more) =
      IsWithin env IsFuture t × each k (GivenByFuture t) × AwaitsEach place each (k + 1) names more
  AwaitsEach place each k (None ∷ names) [] = ⊥

  -- each name gives what the result has
  abbrev pub AwaitsAny : Surroundings → List (Option ℕ) → List SemType → Option SemType → Type 0
  AwaitsAny place [] operands result = ⊥
  AwaitsAny place (name ∷ names) operands result = AwaitsEach place (λ k P. ResultHas env result P) 0 (name ∷ names) operands

  -- as many names as fields; each gives what its field holds
  abbrev pub AwaitsAll : Surroundings → List FieldDef → List (Option ℕ) → List SemType → Type 0
  AwaitsAll place fields names operands =
      (length names ≡ length fields)
      × AwaitsEach place (λ k P. IsSomeAnd (slice_get fields k) (λ f. ResultHas env (Some f.ty.sem) P)) 0 names operands
