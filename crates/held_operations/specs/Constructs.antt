-- What each construct that evaluates all its operands does with them: its operations, one after another.
use Rattle.std.specs.Prelude.{◌-◌, ◌/◌, ℕ, suc, Bool, List, [], ◌∷◌, Option, Some, None}
use Rattle.operations.specs.declared.library.LibraryCall.{LibraryCall}
use Rattle.operations.specs.declared.operation.Operation.{Operation}
use Rattle.operations.specs.declared.operation.Operation.TheVariants.{Const, LoadModule, StoreModule, Pop, Tick, Add, Subtract, Multiply, Divide, Remainder, Negate, Concat, Less, LessEqual, Not, Equal, Same, MakeList, MakeMapping, MakeError, MakeFunction, GetItem, GetKey, GetChar, GetField, GetOptional, SetItem, SetKey, Test, Cast, Call, CallValue, Library, Panic, Start, StartValue, Send, Post, Done, Receive, Flush, WaitWorker, WaitFuture, WaitAny, WaitAll}
use Rattle.typed_tree.specs.declared.form.Callee.{Callee}
use Rattle.typed_tree.specs.declared.form.Callee.TheVariants as callee
use Rattle.typed_tree.specs.declared.form.Operator.{Operator}
use Rattle.typed_tree.specs.declared.form.Operator.TheVariants as operator
use Rattle.typed_tree.specs.declared.form.Read.{Read}
use Rattle.typed_tree.specs.declared.form.Read.TheVariants as read
use Rattle.typed_tree.specs.declared.form.StrictForm.{StrictForm}
use Rattle.typed_tree.specs.declared.form.StrictForm.TheVariants as form
use Rattle.typed_tree.specs.declared.stmt.PerformForm.{PerformForm}
use Rattle.typed_tree.specs.declared.stmt.PerformForm.TheVariants as perform
use Rattle.typed_tree.specs.SharedTypes.{Shared, sem_of}

-- ---- operators

-- a > b where it is not so that a ≤ b; and so for the others
abbrev pub operator_operations : Operator → List Operation
operator_operations operator.Negate = Negate ∷ []
operator_operations operator.Not = Not ∷ []
operator_operations operator.Multiply = Multiply ∷ []
operator_operations operator.Divide = Divide ∷ []
operator_operations operator.Remainder = Remainder ∷ []
operator_operations operator.Add = Add ∷ []
operator_operations operator.Concat = Concat ∷ []
operator_operations operator.Subtract = Subtract ∷ []
operator_operations operator.Less = Less ∷ []
operator_operations operator.LessEqual = LessEqual ∷ []
operator_operations operator.Greater = LessEqual ∷ Not ∷ []
operator_operations operator.GreaterEqual = Less ∷ Not ∷ []
operator_operations operator.Equal = Equal ∷ []
operator_operations operator.NotEqual = Equal ∷ Not ∷ []
operator_operations operator.Same = Same ∷ []
operator_operations operator.NotSame = Same ∷ Not ∷ []

-- ---- reads of members

abbrev pub read_operations : Read → List Operation
read_operations read.Item = GetItem ∷ []
read_operations read.Key = GetKey ∷ []
read_operations read.Char = GetChar ∷ []
read_operations (read.Field name) = GetField name ∷ []
read_operations (read.OptionalField name) = GetOptional name ∷ []

-- ---- calls and starts; `count` operands

-- the arguments behind the fixed ones become a list, where the unit takes a rest
abbrev pub rest_operations : ℕ → ℕ → Option ℕ → List Operation → List Operation
rest_operations count fixed None ops = ops
rest_operations count fixed (Some atom) ops = MakeList atom Bool.false (count - fixed) ∷ ops

-- how many arguments the unit then gets: one for each parameter
abbrev pub passed_count : ℕ → ℕ → Option ℕ → ℕ
passed_count count fixed None = count
passed_count count fixed (Some atom) = suc fixed

abbrev pub call_operations : Callee → ℕ → List Operation
call_operations (callee.Unit unit fixed rest) count = rest_operations count fixed rest (Call unit (passed_count count fixed rest) ∷ [])
call_operations callee.Value count = CallValue (count - 1) ∷ []

abbrev pub start_operations : Callee → ℕ → List Operation
start_operations (callee.Unit unit fixed rest) count = rest_operations count fixed rest (Start unit (passed_count count fixed rest) ∷ [])
start_operations callee.Value count = StartValue (count - 1) ∷ []

-- the result of `cloneReadOnly` is cast to the type of what is copied
abbrev pub library_operations : LibraryCall → Option ℕ → Option Shared → ℕ → List Operation
library_operations call atom None count = Library call atom count ∷ []
library_operations call atom (Some t) count = Library call atom count ∷ Cast (sem_of t) ∷ []

-- ---- messages and waits: before the first try a tick is spent

-- where no worker is named, which is refused when messages are paired, nothing is done
abbrev pub with_peer : (ℕ → List Operation) → Option ℕ → List Operation
with_peer ops (Some worker) = Tick ∷ ops worker
with_peer ops None = []

-- a wait for a single worker or future, or an alternate one
abbrev pub wait_operations : List (Option ℕ) → List Operation
wait_operations (Some worker ∷ []) = WaitWorker worker ∷ []
wait_operations (None ∷ []) = WaitFuture ∷ []
wait_operations names = WaitAny names ∷ []

-- ---- the table of expressions and actions; `count` operands

abbrev pub operations_of : StrictForm → ℕ → List Operation
operations_of (form.Literal c) count = Const c ∷ []
operations_of (form.Constant c) count = Const c ∷ []
operations_of (form.Variable m) count = LoadModule m ∷ []
operations_of (form.FunctionName unit) count = MakeFunction unit 0 ∷ []
operations_of (form.Operator op) count = operator_operations op
operations_of (form.Is t) count = Test (sem_of t) ∷ []
operations_of (form.Cast t) count = Cast (sem_of t) ∷ []
operations_of (form.List atom immutable) count = MakeList atom immutable count ∷ []
operations_of (form.Mapping atom immutable) count = MakeMapping atom immutable (count / 2) ∷ []
operations_of form.Error count = MakeError ((count - 2) / 2) ∷ []
operations_of (form.Read how) count = read_operations how
operations_of (form.Call called) count = call_operations called count
operations_of (form.Library call atom cast) count = library_operations call atom cast count
operations_of (form.Start started) count = start_operations started count
operations_of (form.Send peer) count = with_peer (λ w. Send w ∷ []) peer
operations_of (form.SyncSend peer) count = with_peer (λ w. Post w ∷ Done w ∷ []) peer
operations_of (form.Receive peer) count = with_peer (λ w. Receive w ∷ []) peer
operations_of (form.Flush peer) count = with_peer (λ w. Flush w ∷ []) peer
operations_of (form.WaitAny names) count = Tick ∷ wait_operations names
operations_of (form.WaitAll atom names) count = Tick ∷ WaitAll atom names ∷ []

-- ---- the table of statements

abbrev pub perform_operations : PerformForm → List Operation
perform_operations (perform.SetVariable m) = StoreModule m ∷ []
perform_operations perform.SetItem = SetItem ∷ []
perform_operations perform.SetKey = SetKey ∷ []
perform_operations perform.Ignore = Pop ∷ []
perform_operations perform.Evaluate = Pop ∷ []
perform_operations perform.Panic = Panic ∷ []
