-- Which atom or unit each operation uses.
use Rattle.std.specs.Prelude.{ℕ, List, [], ◌∷◌, Option, Some, option_to_list}
use Rattle.operations.specs.declared.operation.Operation.{Operation}
use Rattle.operations.specs.declared.operation.Operation.TheVariants as op

pub data Use : Type 0 where
  -- a structure with the atom is made, where there is one
  MakesStructure : Option ℕ → Use
  -- the unit is called, started, or made a function value
  CallsUnit : ℕ → Use
  StartsUnit : ℕ → Use
  MakesFunction : ℕ → Use
  NoUse : Use

abbrev pub use_of : Operation → Use
use_of (op.Const k) = NoUse
use_of (op.Load slot) = NoUse
use_of (op.Store slot) = NoUse
use_of op.Pop = NoUse
use_of (op.LoadModule m) = NoUse
use_of (op.StoreModule m) = NoUse
use_of op.Tick = NoUse
use_of op.Add = NoUse
use_of op.Subtract = NoUse
use_of op.Multiply = NoUse
use_of op.Divide = NoUse
use_of op.Remainder = NoUse
use_of op.Negate = NoUse
use_of op.Concat = NoUse
use_of op.Less = NoUse
use_of op.LessEqual = NoUse
use_of op.Not = NoUse
use_of op.Equal = NoUse
use_of op.Same = NoUse
use_of (op.MakeList atom immutable count) = MakesStructure (Some atom)
use_of (op.MakeMapping atom immutable count) = MakesStructure (Some atom)
use_of (op.MakeError count) = NoUse
use_of (op.MakeFunction unit count) = MakesFunction unit
use_of op.GetItem = NoUse
use_of op.GetKey = NoUse
use_of op.GetChar = NoUse
use_of (op.GetField name) = NoUse
use_of (op.GetOptional name) = NoUse
use_of op.SetItem = NoUse
use_of op.SetKey = NoUse
use_of (op.Test t) = NoUse
use_of (op.Cast t) = NoUse
use_of (op.Call unit count) = CallsUnit unit
use_of (op.CallValue count) = NoUse
use_of (op.Library call atom count) = MakesStructure atom
use_of op.Return = NoUse
use_of op.Panic = NoUse
use_of (op.Start unit count) = StartsUnit unit
use_of (op.StartValue count) = NoUse
use_of op.Workers = NoUse
use_of (op.Send w) = NoUse
use_of (op.Post w) = NoUse
use_of (op.Done w) = NoUse
use_of (op.Receive w) = NoUse
use_of (op.Flush w) = NoUse
use_of (op.WaitWorker w) = NoUse
use_of op.WaitFuture = NoUse
use_of (op.WaitAny names) = NoUse
use_of (op.WaitAll atom names) = MakesStructure (Some atom)

-- ---- what is used

abbrev pub atoms_made : Use → List ℕ
atoms_made (MakesStructure atom) = option_to_list atom
atoms_made (CallsUnit unit) = []
atoms_made (StartsUnit unit) = []
atoms_made (MakesFunction unit) = []
atoms_made NoUse = []

-- the unit that is called or started by its name
abbrev pub units_called : Use → List ℕ
units_called (MakesStructure atom) = []
units_called (CallsUnit unit) = unit ∷ []
units_called (StartsUnit unit) = unit ∷ []
units_called (MakesFunction unit) = []
units_called NoUse = []

-- the unit of which a function value or a future is made
abbrev pub units_valued : Use → List ℕ
units_valued (MakesStructure atom) = []
units_valued (CallsUnit unit) = []
units_valued (StartsUnit unit) = unit ∷ []
units_valued (MakesFunction unit) = unit ∷ []
units_valued NoUse = []

abbrev pub units_used : Use → List ℕ
units_used (MakesStructure atom) = []
units_used (CallsUnit unit) = unit ∷ []
units_used (StartsUnit unit) = unit ∷ []
units_used (MakesFunction unit) = unit ∷ []
units_used NoUse = []
