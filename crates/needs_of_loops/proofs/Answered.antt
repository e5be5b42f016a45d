-- What holds of answers of calls.
use Rattle.std.proofs.Common.{◌≡◌, IfOk, List, Result, Ok, Err, OnOk, subst}
use Rattle.bal_base.specs.declared.fault.Fault.{Fault}
use Rattle.bal_base.specs.declared.stop.Memory.{Memory as NoMemory}
use Rattle.bal_base.specs.declared.stop.Stop.{Stop}
use Rattle.checks.specs.Checks.{Check, Comes}
use Rattle.check_words.specs.State.{IsLast, State}

-- what holds whatever was answered
pub on-any : (P : Type 0) (r : Result (Unit {0}) (Stop Fault)) → P → OnOk r P
on-any P (Ok a) h = h
on-any P (Err e) h = tt

pub both-on : (P Q : Type 0) (r : Result (Unit {0}) (Stop Fault)) → P → OnOk r Q → OnOk r (P × Q)
both-on P Q (Ok a) p q = (p, q)
both-on P Q (Err e) p q = tt

pub if-found : {A B : Type 0} (P : A → Type 0) (R : A → B → Type 0) (r : Result B NoMemory) (a : A) → P a → IfOk r (R a) → IfOk r (λ b. (x : A) × P x × R x b)
if-found P R (Ok b) a p h = (a, p, h)
if-found P R (Err e) a p h = tt

pub if-then : {A : Type 0} {P Q : A → Type 0} (r : Result A NoMemory) → ((a : A) → P a → Q a) → IfOk r P → IfOk r Q
if-then (Ok a) f h = f a h
if-then (Err e) f h = tt

-- a check of what is the same
pub by-same : {A : Type 0} (f : A → Check State (Unit {0})) (s new : State) (r : Result (Unit {0}) (Stop Fault)) (a b : A) → a ≡ b → Comes (f a) s r new → Comes (f b) s r new
by-same f s new r a b e h = subst (λ x. Comes (f x) s r new) e h

-- what was given is the same
pub give-same : {A : Type 0} (m : Check State A) (s new : State) (a b : A) → a ≡ b → Comes m s (Ok a) new → Comes m s (Ok b) new
give-same m s new a b e h = subst (λ x. Comes m s (Ok x) new) e h

-- the last one of what was read
pub read-last : {A : Type 0} (xs ys : List A) (a : A) → ys ≡ xs → IsLast ys a → IsLast xs a
read-last xs ys a e h = subst (λ zs. IsLast zs a) e h
