-- How frames ask: a patient machine, and what an operation that has begun is.
use Rattle.std.proofs.Common.{◌≡◌, ◌⊎◌, ◌++◌, ℕ, zero, suc, List, [], ◌∷◌, Option, Some, None, refl, inl, inr}
use Rattle.std.specs.Prelude.{slice_get, ⊤}
use Rattle.operations.specs.declared.operation.Constant.TheVariants as constant
use Rattle.operations.specs.declared.operation.Operation.{Operation}
use Rattle.operations.specs.declared.operation.Operation.TheVariants as op
use Rattle.operations.specs.Talk.{workers_in}
use Rattle.value_model.specs.declared.value.Value.{Value}
use Rattle.op_model.specs.Local.{Act, Later as Awaited, Local, Never, Now, acts, captured_from, captures, dropped, futures_in, loaded, stored, taken, twice}
use Rattle.machine_model.specs.Machine.{Ask, On, Does, Stuck, Machine}
use Rattle.worker_waits.proofs.Staying.{IsQuiet}
use Rattle.worker_waits.proofs.Told.{lasting, told-op, told-wait}

-- ---- a frame that can do nothing asks for what nobody performs, so that it needn't be shown that it goes on

abbrev pub patient_ask : {C : Type 0} → C → Ask C → Ask C
patient_ask k (On x) = On x
patient_ask k (Does o vs m) = Does o vs m
patient_ask k Stuck = Does (op.Const constant.Nil) [] k

abbrev pub patient : {C : Type 0} → Machine C → Machine C
patient M = record { facts = M.facts; launch = M.launch; look = λ unit c. patient_ask c (M.look unit c); resume = M.resume; catch = M.catch; enter = M.enter }

-- ---- how operations begin

abbrev pub ActsAre : Operation → Act → Type 0
ActsAre o (Now l) = (told-op o).steps ≡ []
ActsAre o (Awaited other vs l) = (other ≡ o) ⊎ ((slot : ℕ) × (other ≡ op.Load slot))
ActsAre o Never = ⊤

taken-are : (o : Operation) (l : Local) (n : ℕ) (args vs : List Value) → ActsAre o (taken o l n args vs)
taken-are o l zero args vs = inl refl
taken-are o l (suc n) args (v ∷ vs) = taken-are o l n (v ∷ args) vs
taken-are o l (suc n) args [] = tt

captures-are : (l : Local) (slots : List ℕ) (vs : List Value) → ActsAre op.Workers (captures op.Workers l slots vs)
captures-are l [] vs = inl refl
captures-are l (slot ∷ slots) vs = by (slice_get l.slots slot) (λ v. captures-are l slots (vs ++ v ∷ []))
  where
    by : (o : Option (Option Value)) → ((v : Value) → ActsAre op.Workers (captures op.Workers l slots (vs ++ v ∷ []))) → ActsAre op.Workers (captured_from l slot o (λ v. captures op.Workers l slots (vs ++ v ∷ [])))
    by (Some (Some v)) more = more v
    by (Some None) more = inr (slot, refl)
    by None more = tt

loaded-are : (l : Local) (slot : ℕ) (o : Option (Option Value)) → ActsAre (op.Load slot) (loaded l slot o)
loaded-are l slot (Some (Some v)) = refl
loaded-are l slot (Some None) = inl refl
loaded-are l slot None = tt

stored-are : (l : Local) (slot : ℕ) (vs : List Value) → ActsAre (op.Store slot) (stored l slot vs)
stored-are l slot (v ∷ vs) = refl
stored-are l slot [] = tt

dropped-are : (l : Local) (vs : List Value) → ActsAre op.Pop (dropped l vs)
dropped-are l (v ∷ vs) = refl
dropped-are l [] = tt

pub acts-are : (captured : List ℕ) (o : Operation) (l : Local) → ActsAre o (acts captured o l)
acts-are captured (op.Const k) l = refl
acts-are captured (op.Load slot) l = loaded-are l slot (slice_get l.slots slot)
acts-are captured (op.Store slot) l = stored-are l slot l.stack
acts-are captured op.Pop l = dropped-are l l.stack
acts-are captured op.Workers l = captures-are l captured []
acts-are captured (op.LoadModule m) l = taken-are (op.LoadModule m) l 0 [] l.stack
acts-are captured (op.StoreModule m) l = taken-are (op.StoreModule m) l 1 [] l.stack
acts-are captured op.Tick l = taken-are op.Tick l 0 [] l.stack
acts-are captured op.Add l = taken-are op.Add l 2 [] l.stack
acts-are captured op.Subtract l = taken-are op.Subtract l 2 [] l.stack
acts-are captured op.Multiply l = taken-are op.Multiply l 2 [] l.stack
acts-are captured op.Divide l = taken-are op.Divide l 2 [] l.stack
acts-are captured op.Remainder l = taken-are op.Remainder l 2 [] l.stack
acts-are captured op.Negate l = taken-are op.Negate l 1 [] l.stack
acts-are captured op.Concat l = taken-are op.Concat l 2 [] l.stack
acts-are captured op.Less l = taken-are op.Less l 2 [] l.stack
acts-are captured op.LessEqual l = taken-are op.LessEqual l 2 [] l.stack
acts-are captured op.Not l = taken-are op.Not l 1 [] l.stack
acts-are captured op.Equal l = taken-are op.Equal l 2 [] l.stack
acts-are captured op.Same l = taken-are op.Same l 2 [] l.stack
acts-are captured (op.MakeList atom immutable count) l = taken-are (op.MakeList atom immutable count) l count [] l.stack
acts-are captured (op.MakeMapping atom immutable count) l = taken-are (op.MakeMapping atom immutable count) l (twice count) [] l.stack
acts-are captured (op.MakeError count) l = taken-are (op.MakeError count) l (suc (suc (twice count))) [] l.stack
acts-are captured (op.MakeFunction unit count) l = taken-are (op.MakeFunction unit count) l count [] l.stack
acts-are captured op.GetItem l = taken-are op.GetItem l 2 [] l.stack
acts-are captured op.GetKey l = taken-are op.GetKey l 2 [] l.stack
acts-are captured op.GetChar l = taken-are op.GetChar l 2 [] l.stack
acts-are captured (op.GetField name) l = taken-are (op.GetField name) l 1 [] l.stack
acts-are captured (op.GetOptional name) l = taken-are (op.GetOptional name) l 1 [] l.stack
acts-are captured op.SetItem l = taken-are op.SetItem l 3 [] l.stack
acts-are captured op.SetKey l = taken-are op.SetKey l 3 [] l.stack
acts-are captured (op.Test t) l = taken-are (op.Test t) l 1 [] l.stack
acts-are captured (op.Cast t) l = taken-are (op.Cast t) l 1 [] l.stack
acts-are captured (op.Call unit count) l = taken-are (op.Call unit count) l count [] l.stack
acts-are captured (op.CallValue count) l = taken-are (op.CallValue count) l (suc count) [] l.stack
acts-are captured (op.Library call atom count) l = taken-are (op.Library call atom count) l count [] l.stack
acts-are captured op.Return l = taken-are op.Return l 1 [] l.stack
acts-are captured op.Panic l = taken-are op.Panic l 1 [] l.stack
acts-are captured (op.Start unit count) l = taken-are (op.Start unit count) l count [] l.stack
acts-are captured (op.StartValue count) l = taken-are (op.StartValue count) l (suc count) [] l.stack
acts-are captured (op.Send w) l = taken-are (op.Send w) l 1 [] l.stack
acts-are captured (op.Post w) l = taken-are (op.Post w) l 1 [] l.stack
acts-are captured (op.Done w) l = taken-are (op.Done w) l 0 [] l.stack
acts-are captured (op.Receive w) l = taken-are (op.Receive w) l 0 [] l.stack
acts-are captured (op.Flush w) l = taken-are (op.Flush w) l 0 [] l.stack
acts-are captured (op.WaitWorker w) l = taken-are (op.WaitWorker w) l 0 [] l.stack
acts-are captured op.WaitFuture l = taken-are op.WaitFuture l 1 [] l.stack
acts-are captured (op.WaitAny names) l = taken-are (op.WaitAny names) l (futures_in names) [] l.stack
acts-are captured (op.WaitAll atom names) l = taken-are (op.WaitAll atom names) l (futures_in names) [] l.stack

-- ---- operations that are no messages

wait-lasting : (ns : List ℕ) → lasting (told-wait ns).steps ≡ 0
wait-lasting [] = refl
wait-lasting (n ∷ ns) = refl

alternate-lasting : (names : List (Option ℕ)) → lasting (told-op (op.WaitAny names)).steps ≡ 0
alternate-lasting [] = refl
alternate-lasting (name ∷ names) = wait-lasting (workers_in (name ∷ names))

pub quiet-lasting : (o : Operation) → IsQuiet o → lasting (told-op o).steps ≡ 0
quiet-lasting op.Workers q = absurd q
quiet-lasting (op.Send w) q = absurd q
quiet-lasting (op.Post w) q = absurd q
quiet-lasting (op.Receive w) q = absurd q
quiet-lasting (op.WaitAny names) q = alternate-lasting names
quiet-lasting (op.WaitAll atom names) q = wait-lasting (workers_in names)
quiet-lasting o q = refl
