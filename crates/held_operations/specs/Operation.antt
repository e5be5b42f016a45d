-- What an operation with references means.
use Rattle.type_model.specs.declared.basic.BasicSet.TheVariants as basic
use Rattle.type_model.specs.declared.basic.SemType.{SemType, Basic}
use Rattle.operations.specs.declared.operation.Constant.{Constant}
use Rattle.operations.specs.declared.operation.Constant.TheVariants as constant
use Rattle.operations.specs.declared.operation.Operation.{Operation}
use Rattle.operations.specs.declared.operation.Operation.TheVariants as operation
use Rattle.typed_tree.specs.SharedTypes.{sem_of}
use Rattle.held_operations.specs.declared.op.Op.{Op}
use Rattle.held_operations.specs.declared.op.Op.TheVariants as op
use Rattle.held_operations.specs.declared.op.TestedType.{TestedType}
use Rattle.held_operations.specs.declared.op.TestedType.TheVariants as tested

-- the type of one constant
abbrev pub singleton : Constant → SemType
singleton constant.Nil = Basic basic.Nil
singleton (constant.Bool b) = Basic (basic.Bool b)
singleton (constant.Int i) = Basic (basic.IntRange i i)
singleton (constant.Str t) = Basic (basic.StringOne t)

abbrev pub type_of : TestedType → SemType
type_of (tested.Tree t) = sem_of t.now
type_of tested.Nil = Basic basic.Nil
type_of tested.Error = Basic basic.ErrorAll
type_of (tested.Single c) = singleton c.now

abbrev pub operation_of : Op → Operation
operation_of (op.Const c) = operation.Const c.now
operation_of op.Nil = operation.Const constant.Nil
operation_of (op.Truth b) = operation.Const (constant.Bool b)
operation_of (op.Int i) = operation.Const (constant.Int i)
operation_of (op.Load slot) = operation.Load slot
operation_of (op.Store slot) = operation.Store slot
operation_of op.Pop = operation.Pop
operation_of (op.LoadModule m) = operation.LoadModule m
operation_of (op.StoreModule m) = operation.StoreModule m
operation_of op.Tick = operation.Tick
operation_of op.Add = operation.Add
operation_of op.Subtract = operation.Subtract
operation_of op.Multiply = operation.Multiply
operation_of op.Divide = operation.Divide
operation_of op.Remainder = operation.Remainder
operation_of op.Negate = operation.Negate
operation_of op.Concat = operation.Concat
operation_of op.Less = operation.Less
operation_of op.LessEqual = operation.LessEqual
operation_of op.Not = operation.Not
operation_of op.Equal = operation.Equal
operation_of op.Same = operation.Same
operation_of (op.MakeList atom immutable count) = operation.MakeList atom immutable count
operation_of (op.MakeMapping atom immutable count) = operation.MakeMapping atom immutable count
operation_of (op.MakeError count) = operation.MakeError count
operation_of (op.MakeFunction unit count) = operation.MakeFunction unit count
operation_of op.GetItem = operation.GetItem
operation_of op.GetKey = operation.GetKey
operation_of op.GetChar = operation.GetChar
operation_of (op.GetField name) = operation.GetField name.now
operation_of (op.GetOptional name) = operation.GetOptional name.now
operation_of op.SetItem = operation.SetItem
operation_of op.SetKey = operation.SetKey
operation_of (op.Test t) = operation.Test (type_of t)
operation_of (op.Cast t) = operation.Cast (sem_of t.now)
operation_of (op.Call unit count) = operation.Call unit count
operation_of (op.CallValue count) = operation.CallValue count
operation_of (op.Library call atom count) = operation.Library call atom count
operation_of op.Return = operation.Return
operation_of op.Panic = operation.Panic
operation_of (op.Start unit count) = operation.Start unit count
operation_of (op.StartValue count) = operation.StartValue count
operation_of op.Workers = operation.Workers
operation_of (op.Send w) = operation.Send w
operation_of (op.Post w) = operation.Post w
operation_of (op.Done w) = operation.Done w
operation_of (op.Receive w) = operation.Receive w
operation_of (op.Flush w) = operation.Flush w
operation_of (op.WaitWorker w) = operation.WaitWorker w
operation_of op.WaitFuture = operation.WaitFuture
operation_of (op.WaitAny names) = operation.WaitAny names.now
operation_of (op.WaitAll atom names) = operation.WaitAll atom names.now
