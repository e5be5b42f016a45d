-- The words of which needs are put together, as answers of calls.
use Rattle.std.proofs.Common.{◌≡◌, ℕ, List, [], ◌∷◌, ◌++◌, Some, None, Result, Ok, Err, inr, refl, sym, subst}
use Rattle.bal_base.specs.declared.fault.Fault.{Fault}
use Rattle.bal_base.specs.declared.fault.FaultCode.{FaultCode}
use Rattle.bal_base.specs.declared.fault.Kept.TheVariants.{Nothing as ShowsNothing}
use Rattle.bal_base.specs.declared.place.Place.{Place}
use Rattle.bal_base.specs.declared.stop.Stop.{Stop}
use Rattle.bal_base.specs.declared.stop.Stop.TheVariants.{Memory, Fault as OwnFault}
use Rattle.checks.specs.Checks.{Check, Comes, gives_some, refuses, ◌▷◌}
use Rattle.checks.specs.Questions.{IsFault}
use Rattle.checks.proofs.Steps.{goes_on, some_is}
use Rattle.needs.proofs.Running.{asks-comes, does-comes}
use Rattle.typed_tree.specs.declared.expr.TypedExpr.{TypedExpr}
use Rattle.check_words.specs.State.{AreLast, State, all_but}
use Rattle.check_words.specs.Words.{Atoms, asking, becomes, by_handles, fails, makes}

-- one behind another
pub next : {S A B : Type 0} (m : Check S A) (n : A → Check S B) (old new : S) (r : Result B (Stop Fault)) (a : A) (mid : S)
    → Comes m old (Ok a) mid → Comes (n a) mid r new → Comes (m ▷ n) old r new
next m n old new r a mid h k = goes_on m n old mid new a r h k

-- ---- changes of the state

pub became-this : (change : State → State) (old new : State) → new ≡ change old → Comes (becomes change) old (Ok tt) new
became-this change old new e = does-comes _ old new e

pub changed : (change : State → State) (s : State) → Comes (becomes change) s (Ok tt) (change s)
changed change s = became-this change s (change s) refl

pub given : {A : Type 0} (P : State → A → Type 0) (s : State) (a : A) → P s a → Comes (gives_some P) s (Ok a) s
given P s a p = some_is P s s a refl p

-- the same by another handle
pub handed : {A : Type 0} (Same : A → A → Type 0) (s : State) (a b : A) → Same a b → Comes (by_handles Same a) s (Ok b) s
unfolding Comes by_handles
handed Same s a b h = (h, refl)

-- ---- parts

pub made : (count : ℕ) (P : Atoms → List TypedExpr → TypedExpr → Type 0) (old new : State) (parts : List TypedExpr) (e : TypedExpr)
    → AreLast old.found count parts → P old.atoms parts e → new ≡ record old { found = all_but count old.found ++ e ∷ []; ways = None }
    → Comes (makes count P) old (Ok tt) new
made count P old new parts e last p same = does-comes _ old new (parts, last, e, p, same)

-- ---- questions

pub asked : {A : Type 0} (question : Check Atoms A) (s : State) (env : Atoms) (r : Result A (Stop Fault))
    → Comes question s.atoms r env → Comes (asking question) s r (record s { atoms = env })
asked question s env r h = asks-comes _ _ question s (record s { atoms = env }) r h refl

pub failed : (A : Type 0) (code : FaultCode) (at : Place) (s : State) (f : Fault) → IsFault code (Some at) ShowsNothing f
    → Comes (fails {A = A} code at) s (Err (OwnFault f)) s
unfolding Comes refuses
failed A code at s f h = (h, refl)

-- a question that leaves the atoms as they are
pub asked-over : {A : Type 0} (question : Check Atoms A) (s : State) (env : Atoms) (r : Result A (Stop Fault)) (new : State)
    → Comes question s.atoms r env → new ≡ record s { atoms = env } → Comes (asking question) s r new
asked-over question s env r new h e = subst (λ n. Comes (asking question) s r n) (sym e) (asked question s env r h)

-- the first of what follows goes with what comes before it
pub regroup : {A B C : Type 0} (m : Check State A) (n : A → Check State B) (k : B → Check State C) (old mid new : State) (b : B) (r : Result C (Stop Fault))
    → Comes (m ▷ n) old (Ok b) mid → Comes (k b) mid r new → Comes (m ▷ λ a. n a ▷ k) old r new
unfolding Comes ◌▷◌
regroup m n k old mid new b (Ok c) h g = (h.0, h.1, h.2, (b, mid, h.3, g))
regroup m n k old mid new b (Err (OwnFault f)) h g = inr (h.0, h.1, h.2, inr (b, mid, h.3, g))
regroup m n k old mid new b (Err Memory) h g = tt
