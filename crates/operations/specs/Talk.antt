-- What each operation says to, or hears from, the workers of its function.
use Rattle.std.specs.Prelude.{ℕ, List, [], ◌∷◌, Option, Some, None}
use Rattle.operations.specs.declared.operation.Operation.{Operation}
use Rattle.operations.specs.declared.operation.Operation.TheVariants as op

pub data Talk : Type 0 where
  -- a message is sent to the worker
  Sends : ℕ → Talk
  -- the next message from the worker is received
  Receives : ℕ → Talk
  -- it waits until the worker has received what was sent to it
  Flushes : ℕ → Talk
  -- the named workers are started
  StartsWorkers : Talk
  -- it waits for the ends of these workers
  AwaitsWorkers : List ℕ → Talk
  NoTalk : Talk

-- the workers among the names of a wait
abbrev pub workers_in : List (Option ℕ) → List ℕ
workers_in [] = []
workers_in (Some w ∷ names) = w ∷ workers_in names
workers_in (None ∷ names) = workers_in names

abbrev pub talk_of : Operation → Talk
talk_of (op.Const k) = NoTalk
talk_of (op.Load slot) = NoTalk
talk_of (op.Store slot) = NoTalk
talk_of op.Pop = NoTalk
talk_of (op.LoadModule m) = NoTalk
talk_of (op.StoreModule m) = NoTalk
talk_of op.Tick = NoTalk
talk_of op.Add = NoTalk
talk_of op.Subtract = NoTalk
talk_of op.Multiply = NoTalk
talk_of op.Divide = NoTalk
talk_of op.Remainder = NoTalk
talk_of op.Negate = NoTalk
talk_of op.Concat = NoTalk
talk_of op.Less = NoTalk
talk_of op.LessEqual = NoTalk
talk_of op.Not = NoTalk
talk_of op.Equal = NoTalk
talk_of op.Same = NoTalk
talk_of (op.MakeList atom immutable count) = NoTalk
talk_of (op.MakeMapping atom immutable count) = NoTalk
talk_of (op.MakeError count) = NoTalk
talk_of (op.MakeFunction unit count) = NoTalk
talk_of op.GetItem = NoTalk
talk_of op.GetKey = NoTalk
talk_of op.GetChar = NoTalk
talk_of (op.GetField name) = NoTalk
talk_of (op.GetOptional name) = NoTalk
talk_of op.SetItem = NoTalk
talk_of op.SetKey = NoTalk
talk_of (op.Test t) = NoTalk
talk_of (op.Cast t) = NoTalk
talk_of (op.Call unit count) = NoTalk
talk_of (op.CallValue count) = NoTalk
talk_of (op.Library call atom count) = NoTalk
talk_of op.Return = NoTalk
talk_of op.Panic = NoTalk
talk_of (op.Start unit count) = NoTalk
talk_of (op.StartValue count) = NoTalk
talk_of op.Workers = StartsWorkers
talk_of (op.Send w) = Sends w
talk_of (op.Post w) = Sends w
talk_of (op.Done w) = Flushes w
talk_of (op.Receive w) = Receives w
talk_of (op.Flush w) = Flushes w
talk_of (op.WaitWorker w) = AwaitsWorkers (w ∷ [])
talk_of op.WaitFuture = NoTalk
talk_of (op.WaitAny names) = AwaitsWorkers (workers_in names)
talk_of (op.WaitAll atom names) = AwaitsWorkers (workers_in names)
