-- Whether a value belongs to a type, and when that is not told.
use Rattle.std.specs.Prelude.{◌≡◌, ◌⊎◌, ◌↔◌, ◌<◌, ℕ, Bool, true, false, List, [], ◌∷◌, Option, Some, None, IsSomeAnd, IsTrue, length, slice_get, ⊤}
use Rattle.type_model.specs.declared.basic.BasicSet.TheVariants.{Readonly}
use Rattle.type_model.specs.declared.basic.SemType.{SemType, Basic, Atom, And', Not'}
use Rattle.type_model.specs.declared.basic.Ty.{Ty}
use Rattle.type_model.specs.declared.atoms.AtomDef.{AtomDef}
use Rattle.type_model.specs.declared.atoms.AtomDef.TheVariants.{List as ListAtom, Mapping as MappingAtom, Arrow, Error as ErrorAtom, Future as FutureAtom}
use Rattle.type_model.specs.declared.answers.TypeLimit.{TypeLimit}
use Rattle.type_model.specs.Calls.{Without}
use Rattle.type_model.specs.Defined.{IsDefined}
use Rattle.type_diagrams.specs.Reach.{Passes}
use Rattle.value_model.specs.declared.value.Value.{Value}
use Rattle.value_model.specs.declared.value.Value.TheVariants.{Nil, Bool as Truth, Int, Str, Struct, Error, Function, Future}
use Rattle.value_model.specs.declared.panics.PanicName.TheVariants.{TypeCastError}
use Rattle.value_model.specs.Heap.{Heap as ModelHeap}
use Rattle.value_model.specs.Stands.{OwnTypes, Belongs, BelongsIf}
use Rattle.op_model.specs.ProgramFacts.{own_types}
use Rattle.op_model.specs.Rows.{gives, panics}
use Rattle.plain_run.specs.declared.facts.ProgramFacts.{ProgramFacts}
use Rattle.plain_run.specs.declared.held.Heap.{Heap}
use Rattle.plain_run.specs.declared.held.World.{World}
use Rattle.plain_run.specs.declared.world.Came.{Came}
use Rattle.plain_run.specs.Came.{came_of}
use Rattle.plain_run.specs.ProgramFacts.{facts_of}
use Rattle.plain_run.specs.Held.{heap_of, world_of}

-- ---- the type of all shapes that a value may stand for, where it may stand for several

-- the atom, and not `readonly`
abbrev pub IsOpenAtom : ℕ → SemType → Type 0
IsOpenAtom a (And' _ (Atom b) _ (Not' _ (Basic Readonly))) = b ≡ a
IsOpenAtom a _ = ⊥

-- what a mutable structure of the atom with this definition stands for: of lists and mappings, those without the mark
abbrev pub IsOfMutable : ℕ → AtomDef → SemType → Type 0
IsOfMutable a (ListAtom fixed rest) s = IsOpenAtom a s
IsOfMutable a (MappingAtom fields rest) s = IsOpenAtom a s
IsOfMutable a (Arrow args outcome alone) s = s ≡ Atom a
IsOfMutable a (ErrorAtom detail) s = s ≡ Atom a
IsOfMutable a (FutureAtom outcome) s = s ≡ Atom a

module _ (own : OwnTypes) (h : ModelHeap) where
  abbrev IsOwnAtom : ℕ → SemType → Type 0
  IsOwnAtom a s = (a < length own.atoms) × (s ≡ Atom a)

  -- The type of what a mutable structure, a function or a future stands for: that of its atom, which is defined. No other
  -- value has such a type.
  abbrev pub IsOwnType : Value → SemType → Type 0
  IsOwnType Nil s = ⊥
  IsOwnType (Truth b) s = ⊥
  IsOwnType (Int i) s = ⊥
  IsOwnType (Str t) s = ⊥
  IsOwnType (Struct n) s =
      IsSomeAnd (slice_get h.structures n) (λ x. IsTrue x.mutable × IsSomeAnd x.atom (λ a. IsSomeAnd (slice_get own.atoms a) (λ d. IsOfMutable a d s)))
  IsOwnType (Error n) s = ⊥
  IsOwnType (Function n) s =
      IsSomeAnd (slice_get h.functions n) (λ f. IsSomeAnd (slice_get own.units f.unit) (λ u. IsOwnAtom u.0 s))
  IsOwnType (Future strand unit) s = IsSomeAnd (slice_get own.units unit) (λ u. IsOwnAtom u.1 s)

-- ---- what is told

-- It is asked whether all shapes of the first type are in the second. That is not decided where the second names an atom
-- that is not defined, and where the question passes a limit.
abbrev pub IsUndecidedQuestion : List AtomDef → SemType → SemType → Type 0
IsUndecidedQuestion atoms s t = (¬ IsDefined atoms t) ⊎ ((limit : TypeLimit) × Passes atoms (Without s t) limit)

module _ (facts : ProgramFacts) (h : Heap) where
  -- that is not told of the value's own type
  abbrev pub IsBeyond : Value → SemType → Type 0
  IsBeyond v t = (s : SemType) × IsOwnType (own_types (facts_of facts)) (heap_of h) v s × IsUndecidedQuestion facts.atoms.now s t

  -- whether the value belongs to the type, or that it is not told
  abbrev pub Tells : Value → SemType → Option Bool → Type 0
  Tells v t (Some holds) = IsTrue holds ↔ Belongs (own_types (facts_of facts)) (heap_of h) v t
  Tells v t None = IsBeyond v t

  -- there is such a type, and whether the value belongs to it is not told
  abbrev pub IsBeyondIf : Value → Option Ty → Type 0
  IsBeyondIf v t = IsSomeAnd t (λ u. IsBeyond v u.sem)

  -- whether there is such a type to which the value belongs, or that this is not told
  abbrev pub TellsIf : Value → Option Ty → Option Bool → Type 0
  TellsIf v t (Some holds) = IsTrue holds ↔ BelongsIf (own_types (facts_of facts)) (heap_of h) v t
  TellsIf v t None = IsBeyondIf v t

  -- whether the value belongs to the type, or that it is not told, of simple values and errors; of others nothing is said
  abbrev pub TellsIfOne : Value → SemType → Option Bool → Type 0
  TellsIfOne Nil t told = Tells Nil t told
  TellsIfOne (Truth b) t told = Tells (Truth b) t told
  TellsIfOne (Int i) t told = Tells (Int i) t told
  TellsIfOne (Str s) t told = Tells (Str s) t told
  TellsIfOne (Struct n) t told = ⊤
  TellsIfOne (Error n) t told = Tells (Error n) t told
  TellsIfOne (Function n) t told = ⊤
  TellsIfOne (Future strand unit) t told = ⊤

  -- the same of the operands of a test or a cast: of no operand, and of several, nothing is left open
  abbrev pub AreBeyond : List Value → SemType → Type 0
  AreBeyond [] t = ⊥
  AreBeyond (v ∷ []) t = IsBeyond v t
  AreBeyond (v ∷ w ∷ vs) t = ⊥

-- the value where it belongs to the type, and else a panic
abbrev pub IsCast : World → Value → Bool → World → Came → Type 0
IsCast old v true new came = came_of came new ≡ gives (world_of old) v
IsCast old v false new came = came_of came new ≡ panics (world_of old) TypeCastError
