-- For which types code asks: those that its commands test, and those of members of the structures that it makes.
use Rattle.std.specs.Prelude.{◌⊎◌, ◌↔◌, ℕ, AllPairs, Any, IsSomeAnd, List, Option, Some, None, slice_get, ⊤}
use Rattle.type_model.specs.declared.atoms.AtomDef.{AtomDef}
use Rattle.type_model.specs.declared.basic.SemType.{SemType}
use Rattle.type_model.specs.SameType.{IsSameType}
use Rattle.operations.specs.declared.operation.Operation.{Operation}
use Rattle.operations.specs.declared.operation.Operation.TheVariants as op
use Rattle.op_model.specs.Inherent.{member_types}
use Rattle.stack_code.specs.declared.code.Code.{Code}
use Rattle.stack_code.specs.Commands.{Command, Do, GoTo, GoToIfNot, OpenTrap, CloseTrap, command_at}

-- ---- commands

-- the type that a value is tested for, or cast to
abbrev pub type_tested : Operation → Option SemType
type_tested (op.Const k) = None
type_tested (op.Load slot) = None
type_tested (op.Store slot) = None
type_tested op.Pop = None
type_tested (op.LoadModule m) = None
type_tested (op.StoreModule m) = None
type_tested op.Tick = None
type_tested op.Add = None
type_tested op.Subtract = None
type_tested op.Multiply = None
type_tested op.Divide = None
type_tested op.Remainder = None
type_tested op.Negate = None
type_tested op.Concat = None
type_tested op.Less = None
type_tested op.LessEqual = None
type_tested op.Not = None
type_tested op.Equal = None
type_tested op.Same = None
type_tested (op.MakeList atom immutable count) = None
type_tested (op.MakeMapping atom immutable count) = None
type_tested (op.MakeError count) = None
type_tested (op.MakeFunction unit count) = None
type_tested op.GetItem = None
type_tested op.GetKey = None
type_tested op.GetChar = None
type_tested (op.GetField name) = None
type_tested (op.GetOptional name) = None
type_tested op.SetItem = None
type_tested op.SetKey = None
type_tested (op.Test t) = Some t
type_tested (op.Cast t) = Some t
type_tested (op.Call unit count) = None
type_tested (op.CallValue count) = None
type_tested (op.Library call atom count) = None
type_tested op.Return = None
type_tested op.Panic = None
type_tested (op.Start unit count) = None
type_tested (op.StartValue count) = None
type_tested op.Workers = None
type_tested (op.Send w) = None
type_tested (op.Post w) = None
type_tested (op.Done w) = None
type_tested (op.Receive w) = None
type_tested (op.Flush w) = None
type_tested (op.WaitWorker w) = None
type_tested op.WaitFuture = None
type_tested (op.WaitAny names) = None
type_tested (op.WaitAll atom names) = None

abbrev pub type_in : Command → Option SemType
type_in (Do o) = type_tested o
type_in (GoTo l) = None
type_in (GoToIfNot l) = None
type_in (OpenTrap l) = None
type_in CloseTrap = None

-- it asks for the type, as it is written
abbrev pub Asks : Command → SemType → Type 0
Asks c t = IsSomeAnd (type_in c) (IsSameType t)

-- ---- members

-- structures with the atom have a member of the type
abbrev pub HasMember : List AtomDef → ℕ → SemType → Type 0
HasMember atoms a t = IsSomeAnd (slice_get atoms a) (λ d. Any (λ m. IsSameType t m.sem) (member_types d))

-- the atom has a definition
abbrev pub IsDefinedAt : List AtomDef → ℕ → Type 0
IsDefinedAt atoms a = IsSomeAnd (slice_get atoms a) (λ d. ⊤)

-- code of these commands asks for it, with these inherent atoms
abbrev pub IsAsked : List Command → List AtomDef → List ℕ → SemType → Type 0
IsAsked commands atoms inherent t = Any (λ c. Asks c t) commands ⊎ Any (λ a. HasMember atoms a t) inherent

-- ---- lists of types

abbrev pub IsAmong : List SemType → SemType → Type 0
IsAmong types t = Any (IsSameType t) types

-- none is written like one before it
abbrev pub AreOnce : List SemType → Type 0
AreOnce types = AllPairs (λ s t. ¬ (IsSameType t s)) types

-- what is asked for was added, so far as it wasn't there
pub record Notes (Asked : SemType → Type 0) (old new : List SemType) : Type 0 where
  pub once : AreOnce old → AreOnce new
  pub are : (t : SemType) → IsAmong new t ↔ (IsAmong old t ⊎ Asked t)

-- ---- code

-- its tested types are those that its commands and the members of its inherent atoms ask for, each once
pub record TestsWhatItAsks (code : Code) : Type 0 where
  pub once : AreOnce code.tested
  pub are : (t : SemType) → IsAmong code.tested t ↔ (((p : ℕ) × IsSomeAnd (command_at code p) (λ c. Asks c t)) ⊎ Any (λ a. HasMember code.atoms a t) code.inherent)
