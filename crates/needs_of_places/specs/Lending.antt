-- What is lent to the questions of a place, beside what its code has.
use Rattle.std.specs.Prelude.{◌≡◌, ℕ, List, Option, Some, None, drop, option_copied, slice_get, ⊤}
use Rattle.type_model.specs.declared.answers.Keys.{Keys}
use Rattle.type_model.specs.declared.answers.Keys.TheVariants.{AnyField, AnyIndex, Field, Results}
use Rattle.type_model.specs.declared.basic.BasicSet.TheVariants.{Never}
use Rattle.type_model.specs.declared.basic.SemType.{SemType, Atom, Basic}
use Rattle.operations.specs.declared.operation.Constant.{Constant}
use Rattle.operations.specs.declared.operation.Constant.TheVariants.{Nil, Bool as Truth, Int, Str}
use Rattle.stack_code.specs.declared.code.Code.{Code}
use Rattle.stack_code.specs.declared.code.Unit.{Unit as CodeUnit}
use Rattle.stack_code.specs.declared.instr.Instr.{Instr}
use Rattle.stack_code.specs.declared.instr.Instr.TheVariants as instr
use Rattle.pair_questions.specs.declared.pair.Pair.{Pair}
use Rattle.needs_of_rows.specs.PairsTaken.{TakesPairs}
use Rattle.needs_of_places.specs.declared.site.Lent.{Lent}

-- all keys of their kind, and no shape
pub record AreLent (lent : Lent) : Type 0 where
  pub indexes : lent.indexes.now ≡ AnyIndex
  pub members : lent.members.now ≡ AnyField
  pub results : lent.results.now ≡ Results
  pub never : lent.never.now ≡ Basic Never

-- ---- for one instruction

-- what the questions of an instruction name that stands in no code
pub data Borrowed : Type 0 where
  Nothing : Borrowed
  -- the types of the arrow atom and of the future atom of a unit, and of an atom that the instruction gives
  ArrowOf : ℕ → Borrowed
  FutureOf : ℕ → Borrowed
  AtomGiven : ℕ → Borrowed
  -- the key whose name is a constant
  FieldNamed : ℕ → Borrowed
  -- behind so many operands, so many pairs
  PairsBehind : ℕ → ℕ → Borrowed

abbrev pub borrowed_by : Instr → Borrowed
borrowed_by (instr.Const c) = Nothing
borrowed_by instr.Pop = Nothing
borrowed_by (instr.Load s) = Nothing
borrowed_by (instr.Store s) = Nothing
borrowed_by (instr.LoadModule m) = Nothing
borrowed_by (instr.StoreModule m) = Nothing
borrowed_by instr.Tick = Nothing
borrowed_by (instr.Jump p) = Nothing
borrowed_by (instr.JumpIfNot p) = Nothing
borrowed_by instr.Add = Nothing
borrowed_by instr.Sub = Nothing
borrowed_by instr.Mul = Nothing
borrowed_by instr.Div = Nothing
borrowed_by instr.Rem = Nothing
borrowed_by instr.Neg = Nothing
borrowed_by instr.Concat = Nothing
borrowed_by instr.Less = Nothing
borrowed_by instr.LessEqual = Nothing
borrowed_by instr.Not = Nothing
borrowed_by instr.Equal = Nothing
borrowed_by instr.Same = Nothing
borrowed_by (instr.MakeList atom count immutable) = Nothing
borrowed_by (instr.MakeMap atom count immutable) = PairsBehind 0 count
borrowed_by (instr.MakeError count) = PairsBehind 2 count
borrowed_by (instr.MakeFunction unit count) = ArrowOf unit
borrowed_by instr.GetItem = Nothing
borrowed_by instr.GetKey = Nothing
borrowed_by instr.GetChar = Nothing
borrowed_by (instr.GetField c) = FieldNamed c
borrowed_by (instr.GetOptional c) = FieldNamed c
borrowed_by instr.SetItem = Nothing
borrowed_by instr.SetKey = Nothing
borrowed_by (instr.Test t) = Nothing
borrowed_by (instr.Cast t) = Nothing
borrowed_by (instr.Call u) = Nothing
borrowed_by (instr.CallValue count) = Nothing
borrowed_by (instr.Native number atom count) = AtomGiven atom
borrowed_by instr.Return = Nothing
borrowed_by (instr.Trap p) = Nothing
borrowed_by instr.Untrap = Nothing
borrowed_by instr.Panic = Nothing
borrowed_by (instr.StartCall u) = FutureOf u
borrowed_by (instr.StartValue count) = Nothing
borrowed_by instr.Workers = Nothing
borrowed_by (instr.Send w) = Nothing
borrowed_by (instr.Post w) = Nothing
borrowed_by (instr.Done w) = Nothing
borrowed_by (instr.Receive w) = Nothing
borrowed_by (instr.Flush w) = Nothing
borrowed_by (instr.WaitWorker w) = Nothing
borrowed_by instr.WaitFuture = Nothing
borrowed_by (instr.WaitAny names) = Nothing
borrowed_by (instr.WaitAll atom names) = AtomGiven atom

-- an atom of a unit, and 0 where there is no such unit
abbrev pub own_of : (CodeUnit → ℕ) → Option CodeUnit → ℕ
own_of f (Some u) = f u
own_of f None = 0

-- the atom that is borrowed, and 0 where none is
abbrev pub atom_of : Code → Borrowed → ℕ
atom_of code (ArrowOf unit) = own_of (λ u. u.arrow) (slice_get code.units unit)
atom_of code (FutureOf unit) = own_of (λ u. u.future) (slice_get code.units unit)
atom_of code (AtomGiven atom) = atom
atom_of code Nothing = 0
atom_of code (FieldNamed c) = 0
atom_of code (PairsBehind behind count) = 0

-- the atom of the function, the future, the list or the mapping that is made; 0 where there is none, and where the row names it
abbrev pub own_atom : Code → Instr → ℕ
own_atom code i = atom_of code (borrowed_by i)

-- the key of this name, where the constant is one
abbrev pub IsFieldKey : Option Constant → Keys → Type 0
IsFieldKey (Some (Str name)) keys = keys ≡ Field name
IsFieldKey (Some Nil) keys = ⊤
IsFieldKey (Some (Truth b)) keys = ⊤
IsFieldKey (Some (Int i)) keys = ⊤
IsFieldKey None keys = ⊤

-- the key that is borrowed
abbrev pub IsKeyOf : Code → Borrowed → Keys → Type 0
IsKeyOf code (FieldNamed c) keys = IsFieldKey (slice_get code.constants c) keys
IsKeyOf code Nothing keys = ⊤
IsKeyOf code (ArrowOf unit) keys = ⊤
IsKeyOf code (FutureOf unit) keys = ⊤
IsKeyOf code (AtomGiven atom) keys = ⊤
IsKeyOf code (PairsBehind behind count) keys = ⊤

abbrev pub IsFieldOf : Code → Instr → Keys → Type 0
IsFieldOf code i keys = IsKeyOf code (borrowed_by i) keys

-- the pairs that are borrowed
abbrev pub ArePairsIn : Borrowed → List SemType → Option (List Pair) → Type 0
ArePairsIn (PairsBehind behind count) operands pairs = TakesPairs count (drop behind operands) pairs
ArePairsIn Nothing operands pairs = ⊤
ArePairsIn (ArrowOf unit) operands pairs = ⊤
ArePairsIn (FutureOf unit) operands pairs = ⊤
ArePairsIn (AtomGiven atom) operands pairs = ⊤
ArePairsIn (FieldNamed c) operands pairs = ⊤

-- the pairs of a mapping, and those of an error behind its message and its cause
abbrev pub ArePairsOf : Instr → List SemType → Option (List Pair) → Type 0
ArePairsOf i operands pairs = ArePairsIn (borrowed_by i) operands pairs

-- what the questions of an instruction name
pub record AreLentFor (code : Code) (i : Instr) (operands : List SemType) (lent : Lent) : Type 0 where
  pub all : AreLent lent
  pub own : lent.own.now ≡ Atom (own_atom code i)
  pub field : IsFieldOf code i lent.field.now
  pub pairs : ArePairsOf i operands (option_copied lent.pairs)
