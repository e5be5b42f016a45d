-- Operands of waits are taken off the stack; and where each strand but the first was made for a named worker, no value that well-typed code
-- has made is a future.
use Rattle.std.proofs.Common.{◌≡◌, ◌++◌, ◌∙◌, ℕ, zero, suc, List, [], ◌∷◌, reverse, refl, sym, subst, ap, inl, inr, ◌⊎◌}
use Rattle.std.proofs.lemmas.List.{reverse-append}
use Rattle.std.specs.Prelude.{slice_get}
use Rattle.std.specs.List.{AllZip}
use Rattle.type_model.specs.declared.basic.SemType.{SemType}
use Rattle.operations.specs.declared.operation.Operation.{Operation}
use Rattle.operations.specs.declared.operation.Operation.TheVariants as op
use Rattle.value_model.specs.declared.value.Value.{Value}
use Rattle.value_model.specs.declared.value.Value.TheVariants.{Future}
use Rattle.op_model.specs.Common.{Common}
use Rattle.op_model.specs.Local.{Act, Later as Awaited, Local, Never, Now, acts, futures_in, taken}
use Rattle.machine_model.specs.Machine.{Ask, Does, On, Stuck, asks}
use Rattle.machine_model.proofs.Shapes.{in-some}
use Rattle.eval_model.specs.Tasks.{Choose, Do, Doing, Eval, Exec, Get, Guard, Task, Turn, doing}
use Rattle.eval_model.specs.Trees.{next_of}
use Rattle.worker_waits.proofs.Asking.{ActsAre, acts-are}
use Rattle.stack_code.specs.declared.code.Code.{Code}
use Rattle.stack_code.specs.Values.{Fits, IsMade}
use Rattle.lowered_ends.proofs.Roles.{AreWorkers, first-alone, roles}
use Rattle.lowered_ends.proofs.Starting.{choice-asks}
use Rattle.lowered_ends.proofs.Stopping.{IsAmong, TakesFutures}

-- ---- operands are taken off the stack

taken-among : (o : Operation) (l : Local) (n : ℕ) (args stack : List Value) (other : Operation) (vs : List Value) (m : Local) (v : Value) → taken o l n args stack ≡ Awaited other vs m → IsAmong v vs → IsAmong v args ⊎ IsAmong v stack
taken-among o l zero args stack other vs m v e h = inl (subst (IsAmong v) (sym (ap operands e)) h)
  where
    operands : Act → List Value
    operands (Awaited p us k) = us
    operands (Now k) = []
    operands Never = []
taken-among o l (suc n) args [] other vs m v e h = absurd (let q : ⊥ = cc in q)
taken-among o l (suc n) args (w ∷ stack) other vs m v e h = by (taken-among o l n (w ∷ args) stack other vs m v e h)
  where
    by : IsAmong v (w ∷ args) ⊎ IsAmong v stack → IsAmong v args ⊎ IsAmong v (w ∷ stack)
    by (inl (inl is)) = inr (inl is)
    by (inl (inr h)) = inl h
    by (inr h) = inr (inr h)

all-taken : (o : Operation) (l : Local) (n : ℕ) (stack : List Value) (other : Operation) (vs : List Value) (m : Local) (v : Value) → taken o l n [] stack ≡ Awaited other vs m → IsAmong v vs → IsAmong v stack
all-taken o l n stack other vs m v e h = by (taken-among o l n [] stack other vs m v e h)
  where
    by : IsAmong v [] ⊎ IsAmong v stack → IsAmong v stack
    by (inl none) = absurd none
    by (inr h) = h

act-taken : (captured : List ℕ) (o : Operation) (l : Local) (other : Operation) (vs : List Value) (m : Local) (v : Value) → TakesFutures o → acts captured o l ≡ Awaited other vs m → IsAmong v vs → IsAmong v l.stack
act-taken captured op.WaitFuture l other vs m v t e h = all-taken op.WaitFuture l 1 l.stack other vs m v e h
act-taken captured (op.WaitAny names) l other vs m v t e h = all-taken (op.WaitAny names) l (futures_in names) l.stack other vs m v e h
act-taken captured (op.WaitAll atom names) l other vs m v t e h = all-taken (op.WaitAll atom names) l (futures_in names) l.stack other vs m v e h
act-taken captured o l other vs m v t e h = absurd t

does-taken : (captured : List ℕ) (first : Operation) (l : Local) (ts : List Task) (o : Operation) (vs : List Value) (k : Doing) (v : Value) → TakesFutures o → asks (λ m. doing m ts) (acts captured first l) ≡ Does o vs k → IsAmong v vs → IsAmong v l.stack
does-taken captured first l ts o vs k v t e h = by (acts captured first l) refl (acts-are captured first l) e
  where
    op_in : Ask Doing → Operation
    op_in (Does p us d) = p
    op_in (On d) = op.Pop
    op_in Stuck = op.Pop

    values : Ask Doing → List Value
    values (Does p us d) = us
    values (On d) = []
    values Stuck = []

    by : (act : Act) → acts captured first l ≡ act → ActsAre first act → asks (λ m. doing m ts) act ≡ Does o vs k → IsAmong v l.stack
    by (Now m) is are e = absurd (let q : ⊥ = cc in q)
    by Never is are e = absurd (let q : ⊥ = cc in q)
    by (Awaited other us m) is (inl same) e =
        act-taken captured first l other us m v (subst TakesFutures (sym (ap op_in e) ∙ same) t) is (subst (IsAmong v) (sym (ap values e)) h)
    by (Awaited other us m) is (inr (slot, same)) e = absurd (subst TakesFutures (sym (ap op_in e) ∙ same) t)

pub next-taken : (captured : List ℕ) (l : Local) (ts : List Task) (o : Operation) (vs : List Value) (k : Doing) (v : Value) → TakesFutures o → next_of captured l ts ≡ Does o vs k → IsAmong v vs → IsAmong v l.stack
next-taken captured l [] o vs k v t e h = absurd (let q : ⊥ = cc in q)
next-taken captured l (Eval x ∷ ts) o vs k v t e h = absurd (let q : ⊥ = cc in q)
next-taken captured l (Exec x ∷ ts) o vs k v t e h = absurd (let q : ⊥ = cc in q)
next-taken captured l (Do first ∷ ts) o vs k v t e h = does-taken captured first l ts o vs k v t e h
next-taken captured l (Get slot narrowed ∷ ts) o vs k v t e h = does-taken captured (op.Load slot) l ts o vs k v t e h
next-taken captured l (Choose first second ∷ ts) o vs k v t e h = absurd (choice-asks first second ts l l.stack o vs k e)
next-taken captured l (Turn x ∷ ts) o vs k v t e h = absurd (let q : ⊥ = cc in q)
next-taken captured l (Guard x ∷ ts) o vs k v t e h = absurd (let q : ⊥ = cc in q)

-- ---- what is on a stack that fits

among-both : (v : Value) (xs ys : List Value) → IsAmong v xs ⊎ IsAmong v ys → IsAmong v (xs ++ ys)
among-both v [] ys (inl h) = absurd h
among-both v [] ys (inr h) = h
among-both v (x ∷ xs) ys (inl (inl e)) = inl e
among-both v (x ∷ xs) ys (inl (inr h)) = inr (among-both v xs ys (inl h))
among-both v (x ∷ xs) ys (inr h) = inr (among-both v xs ys (inr h))

pub among-reverse : (v : Value) (xs : List Value) → IsAmong v xs → IsAmong v (reverse xs)
among-reverse v [] h = absurd h
among-reverse v (x ∷ xs) h = subst (IsAmong v) (sym (reverse-append (x ∷ []) xs)) (by h (among-reverse v xs))
  where
    by : (x ≡ v) ⊎ IsAmong v xs → (IsAmong v xs → IsAmong v (reverse xs)) → IsAmong v (reverse xs ++ x ∷ [])
    by (inl e) more = among-both v (reverse xs) (x ∷ []) (inr (inl e))
    by (inr h) more = among-both v (reverse xs) (x ∷ []) (inl (more h))

pub fits-among : (code : Code) (c : Common) (v : Value) (xs : List Value) (ts : List SemType) → AllZip (Fits code c) xs ts → IsAmong v xs → IsMade code c v
fits-among code c v [] ts h among = absurd among
fits-among code c v (x ∷ xs) [] h among = absurd h
fits-among code c v (x ∷ xs) (t ∷ ts) h (inl e) = subst (IsMade code c) e h.0.1
fits-among code c v (x ∷ xs) (t ∷ ts) h (inr among) = fits-among code c v xs ts h.1 among

pub no-future : (code : Code) (c : Common) → AreWorkers (roles c) → (n unit : ℕ) → IsMade code c (Future n unit) → ⊥
no-future code c workers n unit made =
    let started = made.2 in
    in-some (slice_get c.strands n) started.1 (λ x at h. started.0 (first-alone c.strands n x workers at h.1))
