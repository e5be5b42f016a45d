-- What holds of the fields of a code beside its instructions and maps.
use Rattle.std.specs.Prelude.{◌≡◌, ◌≢◌, ◌↔◌, ◌⊎◌, ◌<◌, ◌++◌, ◌-◌, ◌+◌, ◌^◌, ℕ, List, [], ◌∷◌, Option, Some, None, IsSomeAnd, IsTrue, ◌==◌, All, Any, Contains, filter, length, map, option_to_list, slice_get, sum_by, take, ⊤}
use Rattle.std.specs.List.{AllZip}
use Rattle.bal_base.specs.declared.shape.Shape.{Shape}
use Rattle.bal_base.specs.Valid.{IsText, IsValid}
use Rattle.type_model.specs.declared.basic.SemType.{SemType, Atom}
use Rattle.type_model.specs.declared.basic.Ty.{Ty}
use Rattle.type_model.specs.declared.atoms.AtomDef.{AtomDef}
use Rattle.type_model.specs.declared.atoms.AtomDef.TheVariants.{List as ListAtom, Mapping as MappingAtom, Arrow, Error as ErrorAtom, Future as FutureAtom}
use Rattle.type_model.specs.Defined.{IsClosed, IsDefined}
use Rattle.type_model.specs.Inclusion.{HaveSameShapes}
use Rattle.type_model.specs.Membership.{In}
use Rattle.type_model.specs.Places.{HasDistinctFields}
use Rattle.type_model.specs.SameType.{IsSameType}
use Rattle.operations.specs.declared.operation.Constant.{Constant}
use Rattle.operations.specs.declared.operation.Operation.{Operation}
use Rattle.operations.specs.declared.operation.Operation.TheVariants as op
use Rattle.operations.specs.Kinds.{IsError, IsNil, IsString}
use Rattle.operations.specs.Rows.{IsWithin, shape_of}
use Rattle.operations.specs.Structures.{IsListAtom}
use Rattle.operations.specs.Uses.{atoms_made, units_called, units_used, units_valued, use_of}
use Rattle.op_model.specs.Inherent.{IsListDefinition, IsOneChoice, member_types}
use Rattle.stack_code.specs.declared.code.Code.{Code}
use Rattle.stack_code.specs.declared.code.Unit.{Unit as CodeUnit}
use Rattle.stack_code.specs.declared.code.Spawn.{Spawn}
use Rattle.stack_code.specs.declared.code.StackMap.{StackMap}
use Rattle.stack_code.specs.Commands.{Do, command_at}
use Rattle.stack_code.specs.Flow.{AreSame}
use Rattle.stack_code.specs.Places.{IsStation, IsWorkerUnit, Station, crew, map_at}

module _ (code : Code) where
  abbrev pub EachUnit : (ℕ → CodeUnit → Type 0) → Type 0
  EachUnit P = (n : ℕ) (u : CodeUnit) → slice_get code.units n ≡ Some u → P n u

  abbrev pub UnitAt : ℕ → (CodeUnit → Type 0) → Type 0
  UnitAt n P = IsSomeAnd (slice_get code.units n) P

  -- ---- places and maps

  -- the units have their places from this one on, without gaps, up to the other one
  abbrev pub FollowFrom : ℕ → List CodeUnit → ℕ → Type 0
  FollowFrom p [] q = p ≡ q
  FollowFrom p (u ∷ us) q = (u.first ≡ p) × (p < u.end) × FollowFrom u.end us q

  -- a number for each worker of the unit's function, where there are numbers
  abbrev pub HasNumbers : ℕ → StackMap → Type 0
  HasNumbers workers m = IsTrue m.counted → (length m.sent ≡ workers) × (length m.received ≡ workers)

  -- ---- units

  -- the first slots are the parameters and then what is captured
  abbrev pub HasSlots : CodeUnit → Type 0
  HasSlots u = AreSame code (take (length u.params + length u.captured) u.slots) (u.params ++ u.captured)

  abbrev pub LastIs : List SemType → (SemType → Type 0) → Type 0
  LastIs types P = (front : List SemType) × (t : SemType) × (types ≡ front ++ t ∷ []) × P t

  -- the rest parameter is the last one, and has the lists of its atom
  abbrev pub HasRest : CodeUnit → Option ℕ → Type 0
  HasRest u (Some atom) = IsListAtom code.atoms atom (λ fixed rest. fixed ≡ []) × LastIs u.params (HaveSameShapes code.atoms (Atom atom))
  HasRest u None = ⊤

  -- ---- own atoms

  -- the items beyond the fixed ones have the type of the items of the rest parameter's list; there are none, where it has none
  abbrev pub IsRestOf : Option ℕ → Option Ty → Type 0
  IsRestOf (Some atom) rest =
      IsListAtom code.atoms atom (λ fixed items. IsSomeAnd items (λ t. IsSomeAnd rest (λ s. HaveSameShapes code.atoms s.sem t.sem)))
  IsRestOf None rest = rest ≡ None

  -- the parameters that take one argument each
  abbrev pub single_params : CodeUnit → List SemType
  single_params u = take (length u.params - length (option_to_list u.rest)) u.params

  -- the lists of arguments are those of an atom whose fixed places are the parameters, one by one, and then the rest parameter's
  abbrev pub AreArguments : CodeUnit → SemType → Type 0
  AreArguments u args =
      (lists : ℕ) × (args ≡ Atom lists)
      × IsListAtom code.atoms lists (λ fixed rest. AreSame code (map (λ t. t.sem) fixed) (single_params u) × IsRestOf u.rest rest)

  abbrev pub IsArrowOf : CodeUnit → AtomDef → Type 0
  IsArrowOf u (Arrow args outcome alone) = AreArguments u args × HaveSameShapes code.atoms outcome u.result
  IsArrowOf u (ListAtom fixed rest) = ⊥
  IsArrowOf u (MappingAtom fields rest) = ⊥
  IsArrowOf u (ErrorAtom detail) = ⊥
  IsArrowOf u (FutureAtom outcome) = ⊥

  abbrev pub IsFutureOf : CodeUnit → AtomDef → Type 0
  IsFutureOf u (FutureAtom outcome) = HaveSameShapes code.atoms outcome u.result
  IsFutureOf u (ListAtom fixed rest) = ⊥
  IsFutureOf u (MappingAtom fields rest) = ⊥
  IsFutureOf u (Arrow args outcome alone) = ⊥
  IsFutureOf u (ErrorAtom detail) = ⊥

  abbrev pub IsInitialiser : ℕ → Type 0
  IsInitialiser unit = Contains code.initialisers unit

  -- of the arguments and the result; a worker and an initialiser have none
  abbrev pub HasOwnAtoms : ℕ → CodeUnit → Type 0
  HasOwnAtoms n u =
      ((IsWorkerUnit code n ⊎ IsInitialiser n) → (u.arrow ≡ 0) × (u.future ≡ 0))
      × ((¬ (IsWorkerUnit code n)) → (¬ (IsInitialiser n)) →
      IsSomeAnd (slice_get code.atoms u.arrow) (IsArrowOf u) × IsSomeAnd (slice_get code.atoms u.future) (IsFutureOf u))

  -- ---- workers

  -- a worker captures as many slots as its unit has captured types, and each is below its type
  abbrev pub CapturesWell : CodeUnit → Spawn → Type 0
  CapturesWell u w =
      UnitAt w.unit (λ x. AllZip (λ slot t. IsSomeAnd (slice_get u.slots slot) (λ s. IsWithin code.atoms (λ y. In code.atoms y t) s)) w.slots x.captured)

  -- how often the unit stands among the workers of all units
  abbrev pub times_named : ℕ → ℕ
  times_named unit = sum_by (λ u. length (filter (λ n. n == unit) (map (λ w. w.unit) u.workers))) code.units

  -- it is named by nothing else: it has no parameters and no workers of its own
  abbrev pub IsWorkerWell : ℕ → CodeUnit → Type 0
  IsWorkerWell n u =
      (u.params ≡ []) × (u.workers ≡ []) × (times_named n ≡ 1) × (¬ (IsInitialiser n)) × (code.start ≢ n) × (u.rest ≡ None)

  -- nothing but nil and errors is returned
  abbrev pub ReturnsNilOrErrors : CodeUnit → Type 0
  ReturnsNilOrErrors u = IsWithin code.atoms (λ x. IsNil x ⊎ IsError x) u.result

  abbrev pub IsInitialiserWell : ℕ → CodeUnit → Type 0
  IsInitialiserWell n u = (u.params ≡ []) × (u.captured ≡ []) × (code.start ≢ n) × ReturnsNilOrErrors u

  -- main takes nothing, or strings
  abbrev pub IsMain : CodeUnit → Type 0
  IsMain u =
      (u.captured ≡ []) × ReturnsNilOrErrors u
      × ((u.params ≡ []) × (code.words ≡ 0)
      ⊎ (length u.params ≡ 1) × (u.rest ≡ Some code.words)
      × IsListAtom code.atoms code.words (λ fixed rest. IsSomeAnd rest (λ t. (x : Shape) → IsValid x → (In code.atoms x t.sem ↔ IsString x))))

  -- ---- what operations name

  -- no worker and no initialiser is called, started or made a function value, and what is called or started captures nothing
  abbrev pub NamesUnits : Operation → Type 0
  NamesUnits operation =
      All (λ n. (¬ (IsWorkerUnit code n)) × (¬ (IsInitialiser n))) (units_used (use_of operation))
      × All (λ n. UnitAt n (λ u. u.captured ≡ [])) (units_called (use_of operation))

  -- ---- tables

  abbrev pub IsInherent : ℕ → Type 0
  IsInherent atom = Contains code.inherent atom

  -- the unit of a function value or a future: its own atoms are inherent, and are those of its arguments and its result
  abbrev pub IsCallable : ℕ → Type 0
  IsCallable n = UnitAt n (λ u. IsInherent u.arrow × IsInherent u.future) × (¬ (IsWorkerUnit code n)) × (¬ (IsInitialiser n))

  -- the type is tested as it is written
  abbrev pub IsTested : SemType → Type 0
  IsTested t = Any (IsSameType t) code.tested

  -- gaps of the list are filled with what is inherent
  abbrev pub HasFillers : AtomDef → Type 0
  HasFillers d = IsListDefinition d → All (λ t. (b : ℕ) → IsOneChoice t b → IsInherent b) (member_types d)

  abbrev pub HasTestedMembers : AtomDef → Type 0
  HasTestedMembers d = All (λ t. IsTested t.sem) (member_types d)

  -- ---- types

  -- an int is in range, and a string has characters
  abbrev pub IsConstant : Constant → Type 0
  IsConstant k = IsValid (shape_of k)

  abbrev pub AreDefined : List SemType → Type 0
  AreDefined types = All (IsDefined code.atoms) types

  -- names of fields are texts, as keys of mappings are
  abbrev pub HasTextNames : AtomDef → Type 0
  HasTextNames (MappingAtom fields rest) = All (λ f. IsText f.name) fields
  HasTextNames (ListAtom fixed rest) = ⊤
  HasTextNames (Arrow args outcome alone) = ⊤
  HasTextNames (ErrorAtom detail) = ⊤
  HasTextNames (FutureAtom outcome) = ⊤

  -- every atom that is named is defined, and fields have names of their own
  pub record HasTypes : Type 0 where
    pub definitions : IsClosed code.atoms
    pub fields : All HasDistinctFields code.atoms
    pub names : All HasTextNames code.atoms
    pub tested : AreDefined code.tested
    pub variables : AreDefined code.variables
    pub units : EachUnit (λ n u. AreDefined u.params × AreDefined u.captured × AreDefined u.slots × IsDefined code.atoms u.result)

  -- ---- what a place names

  -- the operation at the place, if one is done there
  abbrev pub DoesSo : ℕ → (Operation → Type 0) → Type 0
  DoesSo p P = (operation : Operation) → command_at code p ≡ Some (Do operation) → P operation

  -- what a place of the unit n names beside types, slots and places
  pub record UsesWell (n : ℕ) (u : CodeUnit) (p : ℕ) : Type 0 where
    -- a number for each worker of the function that the unit is a worker of
    pub numbers : (station : Station) → IsStation code n station → HasNumbers (length (crew code station.function)) (map_at code p)
    pub named : DoesSo p NamesUnits
    -- named workers are started where there are some
    pub starts : command_at code p ≡ Some (Do op.Workers) → u.workers ≢ []
    -- what structures are made with is inherent, and of what function values and futures are made can be called
    pub made : DoesSo p (λ operation. All IsInherent (atoms_made (use_of operation)))
    pub functions : DoesSo p (λ operation. All IsCallable (units_valued (use_of operation)))

  -- ---- all fields

  pub record HasFields : Type 0 where
    pub types : HasTypes
    pub constants : All IsConstant code.constants
    pub places : FollowFrom 0 code.units (length code.instrs)
    pub maps : length code.maps ≡ length code.instrs
    -- no place has more operands than a list of arguments may have
    pub stacks : All (λ m. length m.stack < 2 ^ 63) code.maps
    pub slots : EachUnit (λ n u. HasSlots u)
    pub rests : EachUnit (λ n u. HasRest u u.rest × All IsInherent (option_to_list u.rest))
    pub atoms : EachUnit HasOwnAtoms
    pub spawns : EachUnit (λ n u. All (CapturesWell u) u.workers)
    pub workers : EachUnit (λ n u. IsWorkerUnit code n → IsWorkerWell n u)
    pub initialisers : All (λ n. UnitAt n (IsInitialiserWell n)) code.initialisers
    pub main : UnitAt code.start IsMain
    -- the inherent atoms are atoms; what their gaps are filled with is inherent, and their member types are tested
    pub inherent : All (λ a. IsSomeAnd (slice_get code.atoms a) (λ d. HasFillers d × HasTestedMembers d)) code.inherent
