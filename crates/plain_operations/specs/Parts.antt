-- In which part of the table an operation stands, and where it is not told what it comes to.
use Rattle.std.specs.Prelude.{⊤, List}
use Rattle.typed_tree.specs.SharedTypes.{sem_of}
use Rattle.value_model.specs.declared.value.Value.{Value}
use Rattle.plain_run.specs.declared.facts.ProgramFacts.{ProgramFacts}
use Rattle.plain_run.specs.declared.held.Common.{Common}
use Rattle.held_operations.specs.Operation.{type_of}
use Rattle.held_operations.specs.declared.op.Op.{Op}
use Rattle.held_operations.specs.declared.op.Op.TheVariants as op
use Rattle.plain_tests.specs.Tells.{AreBeyond}
use Rattle.plain_stores.specs.Questions.{SetItemIsBeyond, SetKeyIsBeyond}
use Rattle.plain_library.specs.Causes.{IsCallBeyond}

-- ---- the parts of the table

pub data Part : Type 0 where
  OfFrames : Part
  OfValues : Part
  OfStructures : Part
  OfStrands : Part
  -- those that ask questions of types, comparisons and the library
  OfTypes : Part

abbrev pub part_of : Op → Part
part_of (op.Const c) = OfFrames
part_of op.Nil = OfFrames
part_of (op.Truth b) = OfFrames
part_of (op.Int i) = OfFrames
part_of (op.Load slot) = OfFrames
part_of (op.Store slot) = OfFrames
part_of op.Pop = OfFrames
part_of (op.LoadModule m) = OfFrames
part_of (op.StoreModule m) = OfFrames
part_of op.Tick = OfFrames
part_of op.Add = OfValues
part_of op.Subtract = OfValues
part_of op.Multiply = OfValues
part_of op.Divide = OfValues
part_of op.Remainder = OfValues
part_of op.Negate = OfValues
part_of op.Concat = OfValues
part_of op.Less = OfValues
part_of op.LessEqual = OfValues
part_of op.Not = OfValues
part_of op.Equal = OfTypes
part_of op.Same = OfValues
part_of (op.MakeList atom immutable count) = OfStructures
part_of (op.MakeMapping atom immutable count) = OfStructures
part_of (op.MakeError count) = OfStructures
part_of (op.MakeFunction unit count) = OfStructures
part_of op.GetItem = OfStructures
part_of op.GetKey = OfStructures
part_of op.GetChar = OfStructures
part_of (op.GetField name) = OfStructures
part_of (op.GetOptional name) = OfStructures
part_of op.SetItem = OfTypes
part_of op.SetKey = OfTypes
part_of (op.Test t) = OfTypes
part_of (op.Cast t) = OfTypes
part_of (op.Call unit count) = OfFrames
part_of (op.CallValue count) = OfStrands
part_of (op.Library call atom count) = OfTypes
part_of op.Return = OfFrames
part_of op.Panic = OfFrames
part_of (op.Start unit count) = OfStrands
part_of (op.StartValue count) = OfStrands
part_of op.Workers = OfStrands
part_of (op.Send w) = OfStrands
part_of (op.Post w) = OfStrands
part_of (op.Done w) = OfStrands
part_of (op.Receive w) = OfStrands
part_of (op.Flush w) = OfStrands
part_of (op.WaitWorker w) = OfStrands
part_of op.WaitFuture = OfStrands
part_of (op.WaitAny names) = OfStrands
part_of (op.WaitAll atom names) = OfStrands

-- it stands before the part of frames, which is the last one
abbrev pub IsBeforeFrames : Part → Type 0
IsBeforeFrames OfFrames = ⊥
IsBeforeFrames OfValues = ⊤
IsBeforeFrames OfStructures = ⊤
IsBeforeFrames OfStrands = ⊤
IsBeforeFrames OfTypes = ⊤

-- it stands before the part of values
abbrev pub IsBeforeValues : Part → Type 0
IsBeforeValues OfFrames = ⊥
IsBeforeValues OfValues = ⊥
IsBeforeValues OfStructures = ⊤
IsBeforeValues OfStrands = ⊤
IsBeforeValues OfTypes = ⊤

-- it stands before the part of structures
abbrev pub IsBeforeStructures : Part → Type 0
IsBeforeStructures OfFrames = ⊥
IsBeforeStructures OfValues = ⊥
IsBeforeStructures OfStructures = ⊥
IsBeforeStructures OfStrands = ⊤
IsBeforeStructures OfTypes = ⊤

-- it stands before the part of strands
abbrev pub IsBeforeStrands : Part → Type 0
IsBeforeStrands OfFrames = ⊥
IsBeforeStrands OfValues = ⊥
IsBeforeStrands OfStructures = ⊥
IsBeforeStrands OfStrands = ⊥
IsBeforeStrands OfTypes = ⊤

-- ---- what is not told

-- a question of types that the operation asks is not decided
module _ (facts : ProgramFacts) (vs : List Value) (old : Common) where
  abbrev pub IsUndecided : Op → Type 0
  IsUndecided (op.Const c) = ⊥
  IsUndecided op.Nil = ⊥
  IsUndecided (op.Truth b) = ⊥
  IsUndecided (op.Int i) = ⊥
  IsUndecided (op.Load slot) = ⊥
  IsUndecided (op.Store slot) = ⊥
  IsUndecided op.Pop = ⊥
  IsUndecided (op.LoadModule m) = ⊥
  IsUndecided (op.StoreModule m) = ⊥
  IsUndecided op.Tick = ⊥
  IsUndecided op.Add = ⊥
  IsUndecided op.Subtract = ⊥
  IsUndecided op.Multiply = ⊥
  IsUndecided op.Divide = ⊥
  IsUndecided op.Remainder = ⊥
  IsUndecided op.Negate = ⊥
  IsUndecided op.Concat = ⊥
  IsUndecided op.Less = ⊥
  IsUndecided op.LessEqual = ⊥
  IsUndecided op.Not = ⊥
  IsUndecided op.Equal = ⊥
  IsUndecided op.Same = ⊥
  IsUndecided (op.MakeList atom immutable count) = ⊥
  IsUndecided (op.MakeMapping atom immutable count) = ⊥
  IsUndecided (op.MakeError count) = ⊥
  IsUndecided (op.MakeFunction unit count) = ⊥
  IsUndecided op.GetItem = ⊥
  IsUndecided op.GetKey = ⊥
  IsUndecided op.GetChar = ⊥
  IsUndecided (op.GetField name) = ⊥
  IsUndecided (op.GetOptional name) = ⊥
  IsUndecided op.SetItem = SetItemIsBeyond facts vs old.world
  IsUndecided op.SetKey = SetKeyIsBeyond facts vs old.world
  IsUndecided (op.Test t) = AreBeyond facts old.world.heap vs (type_of t)
  IsUndecided (op.Cast t) = AreBeyond facts old.world.heap vs (sem_of t.now)
  IsUndecided (op.Call unit count) = ⊥
  IsUndecided (op.CallValue count) = ⊥
  IsUndecided (op.Library call atom count) = IsCallBeyond facts call old.world vs
  IsUndecided op.Return = ⊥
  IsUndecided op.Panic = ⊥
  IsUndecided (op.Start unit count) = ⊥
  IsUndecided (op.StartValue count) = ⊥
  IsUndecided op.Workers = ⊥
  IsUndecided (op.Send w) = ⊥
  IsUndecided (op.Post w) = ⊥
  IsUndecided (op.Done w) = ⊥
  IsUndecided (op.Receive w) = ⊥
  IsUndecided (op.Flush w) = ⊥
  IsUndecided (op.WaitWorker w) = ⊥
  IsUndecided op.WaitFuture = ⊥
  IsUndecided (op.WaitAny names) = ⊥
  IsUndecided (op.WaitAll atom names) = ⊥
