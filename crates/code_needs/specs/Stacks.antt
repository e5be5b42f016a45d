-- How many operands each operation takes off a stack, and whether it puts a result there.
use Rattle.std.specs.Prelude.{◌-◌, ◌+◌, ℕ, suc, Bool, true, false, List, [], ◌∷◌, Option, Some, None, drop, if◌then◌else◌, length, take}
use Rattle.type_model.specs.declared.basic.SemType.{SemType}
use Rattle.operations.specs.declared.operation.Operation.{Operation}
use Rattle.operations.specs.declared.operation.Operation.TheVariants as op

-- the futures among the names of a wait, which are operands
abbrev pub futures_in : List (Option ℕ) → ℕ
futures_in [] = 0
futures_in (Some w ∷ names) = futures_in names
futures_in (None ∷ names) = suc (futures_in names)

abbrev pub operand_count : Operation → ℕ
operand_count (op.Const c) = 0
operand_count (op.Load slot) = 0
operand_count (op.Store slot) = 1
operand_count op.Pop = 1
operand_count (op.LoadModule m) = 0
operand_count (op.StoreModule m) = 1
operand_count op.Tick = 0
operand_count op.Add = 2
operand_count op.Subtract = 2
operand_count op.Multiply = 2
operand_count op.Divide = 2
operand_count op.Remainder = 2
operand_count op.Negate = 1
operand_count op.Concat = 2
operand_count op.Less = 2
operand_count op.LessEqual = 2
operand_count op.Not = 1
operand_count op.Equal = 2
operand_count op.Same = 2
operand_count (op.MakeList atom immutable count) = count
operand_count (op.MakeMapping atom immutable count) = count + count
operand_count (op.MakeError count) = suc (suc (count + count))
operand_count (op.MakeFunction unit count) = count
operand_count op.GetItem = 2
operand_count op.GetKey = 2
operand_count op.GetChar = 2
operand_count (op.GetField name) = 1
operand_count (op.GetOptional name) = 1
operand_count op.SetItem = 3
operand_count op.SetKey = 3
operand_count (op.Test t) = 1
operand_count (op.Cast t) = 1
operand_count (op.Call unit count) = count
operand_count (op.CallValue count) = suc count
operand_count (op.Library call atom count) = count
operand_count op.Return = 1
operand_count op.Panic = 1
operand_count (op.Start unit count) = count
operand_count (op.StartValue count) = suc count
operand_count op.Workers = 0
operand_count (op.Send w) = 1
operand_count (op.Post w) = 1
operand_count (op.Done w) = 0
operand_count (op.Receive w) = 0
operand_count (op.Flush w) = 0
operand_count (op.WaitWorker w) = 0
operand_count op.WaitFuture = 1
operand_count (op.WaitAny names) = futures_in names
operand_count (op.WaitAll atom names) = futures_in names

abbrev pub gives : Operation → Bool
gives (op.Const c) = true
gives (op.Load slot) = true
gives (op.Store slot) = false
gives op.Pop = false
gives (op.LoadModule m) = true
gives (op.StoreModule m) = false
gives op.Tick = false
gives op.Add = true
gives op.Subtract = true
gives op.Multiply = true
gives op.Divide = true
gives op.Remainder = true
gives op.Negate = true
gives op.Concat = true
gives op.Less = true
gives op.LessEqual = true
gives op.Not = true
gives op.Equal = true
gives op.Same = true
gives (op.MakeList atom immutable count) = true
gives (op.MakeMapping atom immutable count) = true
gives (op.MakeError count) = true
gives (op.MakeFunction unit count) = true
gives op.GetItem = true
gives op.GetKey = true
gives op.GetChar = true
gives (op.GetField name) = true
gives (op.GetOptional name) = true
gives op.SetItem = false
gives op.SetKey = false
gives (op.Test t) = true
gives (op.Cast t) = true
gives (op.Call unit count) = true
gives (op.CallValue count) = true
gives (op.Library call atom count) = true
gives op.Return = false
gives op.Panic = false
gives (op.Start unit count) = true
gives (op.StartValue count) = true
gives op.Workers = false
gives (op.Send w) = true
gives (op.Post w) = false
gives (op.Done w) = true
gives (op.Receive w) = true
gives (op.Flush w) = true
gives (op.WaitWorker w) = true
gives op.WaitFuture = true
gives (op.WaitAny names) = true
gives (op.WaitAll atom names) = true

-- the frame ends there, and nothing stands behind
abbrev pub ends : Operation → Bool
ends (op.Const c) = false
ends (op.Load slot) = false
ends (op.Store slot) = false
ends op.Pop = false
ends (op.LoadModule m) = false
ends (op.StoreModule m) = false
ends op.Tick = false
ends op.Add = false
ends op.Subtract = false
ends op.Multiply = false
ends op.Divide = false
ends op.Remainder = false
ends op.Negate = false
ends op.Concat = false
ends op.Less = false
ends op.LessEqual = false
ends op.Not = false
ends op.Equal = false
ends op.Same = false
ends (op.MakeList atom immutable count) = false
ends (op.MakeMapping atom immutable count) = false
ends (op.MakeError count) = false
ends (op.MakeFunction unit count) = false
ends op.GetItem = false
ends op.GetKey = false
ends op.GetChar = false
ends (op.GetField name) = false
ends (op.GetOptional name) = false
ends op.SetItem = false
ends op.SetKey = false
ends (op.Test t) = false
ends (op.Cast t) = false
ends (op.Call unit count) = false
ends (op.CallValue count) = false
ends (op.Library call atom count) = false
ends op.Return = true
ends op.Panic = true
ends (op.Start unit count) = false
ends (op.StartValue count) = false
ends op.Workers = false
ends (op.Send w) = false
ends (op.Post w) = false
ends (op.Done w) = false
ends (op.Receive w) = false
ends (op.Flush w) = false
ends (op.WaitWorker w) = false
ends op.WaitFuture = false
ends (op.WaitAny names) = false
ends (op.WaitAll atom names) = false

-- ---- a stack, the last operand last

-- all but the last, and the last one
abbrev pub front_of : List SemType → List SemType
front_of [] = []
front_of (t ∷ []) = []
front_of (t ∷ s ∷ more) = t ∷ front_of (s ∷ more)

abbrev pub last_of : List SemType → Option SemType
last_of [] = None
last_of (t ∷ []) = Some t
last_of (t ∷ s ∷ more) = last_of (s ∷ more)

-- the operands, and what stays below them
abbrev pub rest_of : Operation → List SemType → List SemType
rest_of o stack = take (length stack - operand_count o) stack

abbrev pub operands_of : Operation → List SemType → List SemType
operands_of o stack = drop (length stack - operand_count o) stack

-- the result, read off the next place's stack, and what stands there below it
abbrev pub result_of : Operation → List SemType → Option SemType
result_of o behind = if gives o then last_of behind else None

abbrev pub stay_of : Operation → List SemType → List SemType
stay_of o behind = if gives o then front_of behind else behind
