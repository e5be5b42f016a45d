-- What is asked of a member, as answers of calls.
use Rattle.std.proofs.Common.{◌≡◌, ℕ, Bool, List, Some, None, Result, Ok, Err, IfOk, refl, sym, subst}
use Rattle.bal_base.specs.declared.fault.Fault.{Fault}
use Rattle.bal_base.specs.declared.fault.FaultCode.TheVariants.{ReadOnlyHolds}
use Rattle.bal_base.specs.declared.place.Place.{Place}
use Rattle.bal_base.specs.declared.stop.Memory.{Memory as NoMemory}
use Rattle.bal_base.specs.declared.stop.Stop.{Stop}
use Rattle.checks.specs.Checks.{Check, Comes, gives}
use Rattle.checks.specs.Questions.{below}
use Rattle.descriptors.specs.Described.{IsCopy}
use Rattle.descriptors.specs.Steps.{lifted}
use Rattle.descriptors.proofs.Yielding.{copy-below}
use Rattle.type_model.specs.declared.answers.TypeLimit.{TypeLimit}
use Rattle.type_model.specs.declared.atoms.AtomDef.{AtomDef}
use Rattle.type_model.specs.declared.basic.Ty.{Ty}
use Rattle.type_model.specs.Calls.{Asked}
use Rattle.type_model.specs.Defined.{TyBelow}
use Rattle.typed_tree.specs.declared.expr.TypedExpr.{TypedExpr}
use Rattle.typed_tree.specs.Exprs.{type_of}
use Rattle.typed_tree.specs.SharedTypes.{Shared, sem_of}
use Rattle.check_kinds.specs.Over.{ComesOver}
use Rattle.check_kinds.proofs.Over.{over-asks, over-on, over-out, over-some, over-stops}
use Rattle.check_words.specs.Constructors.{IsFrozenType, is_frozen}
use Rattle.check_words.specs.State.{State}
use Rattle.check_words.specs.Words.{Atoms, below_if, sem, some_over, unless, whether_within}
use Rattle.needs_of_structures.specs.Fitting.{copied, frozen_so}

-- what comes in every state, and leaves it as it is
pub over-same : {A : Type 0} (m : Check State A) (r : Result A (Stop Fault)) (env : Atoms) → ((s : State) → Comes m s r s) → ComesOver m env r env
unfolding ComesOver
over-same m r env h s e = subst (λ n. Comes m s r n) (sym (subst (λ (o : Atoms). record s { atoms = o } ≡ s) e refl)) (h s)

-- something that was made, of which this holds
pub made-over : (P : Atoms → Ty → Type 0) (env : Atoms) (made : Result Ty NoMemory) (r : Result Ty (Stop Fault)) → r ≡ lifted made → IfOk made (P env)
    → ComesOver (some_over P) env r env
made-over P env (Ok t) r is h = subst (λ x. ComesOver (some_over P) env x env) (sym is) (over-some P env t h)
made-over P env (Err e) r is h = subst (λ x. ComesOver (some_over P) env x env) (sym is) (over-out (some_over P) env env)

pub copied-over : (m : Check State Shared) (old mid : Atoms) (t : Shared) (made : Result Ty NoMemory) (r : Result Ty (Stop Fault)) → r ≡ lifted made
    → ComesOver m old (Ok t) mid → IfOk made (IsCopy t.value) → ComesOver (copied m) old r mid
copied-over m old mid t made r is h k =
    over-on m (λ v. some_over (λ env u. IsCopy v.value u)) old mid mid t r h (made-over (λ env u. IsCopy t.value u) mid made r is k)

pub copied-given : (t : Shared) (env : Atoms) (made : Result Ty NoMemory) (r : Result Ty (Stop Fault)) → r ≡ lifted made → IfOk made (IsCopy t.value)
    → ComesOver (copied (gives t)) env r env
copied-given t env made r is k = copied-over (gives t) env env t made r is (over-some (λ o v. v ≡ t) env t refl) k

pub lifted-below : (n : ℕ) (t : Ty) (made : Result Ty NoMemory) (r : Result Ty (Stop Fault)) → r ≡ lifted made → IfOk made (IsCopy t) → TyBelow n t → IfOk r (TyBelow n)
lifted-below n t (Ok u) r is copy h = subst (λ x. IfOk x (TyBelow n)) (sym is) (copy-below n t u copy h)
lifted-below n t (Err e) r is copy h = subst (λ x. IfOk x (TyBelow n)) (sym is) tt

module _ (passes : List AtomDef → Asked → TypeLimit → Type 0) (e : TypedExpr) (at : Place) where
  pub below-none : (env : Atoms) → ComesOver (below_if passes None e at) env (Ok tt) env
  below-none env = over-some (λ o u. u ≡ tt) env tt refl

  -- as the type of the part was looked at
  module _ (v : Ty) (is : v ≡ (type_of e).value) where
    pub below-some : (t : Shared) (w : Ty) (old new : Atoms) (r : Result (Unit {0}) (Stop Fault)) → w ≡ t.value → Comes (below passes v.sem w.sem (Some at)) old r new
        → ComesOver (below_if passes (Some t) e at) old r new
    below-some t w old new r am h =
        over-asks (below passes (sem e) (sem_of t) (Some at)) old new r
        (subst (λ (y : Ty). Comes (below passes y.sem (sem_of t) (Some at)) old r new) is (subst (λ (y : Ty). Comes (below passes v.sem y.sem (Some at)) old r new) am h))

    pub frozen-goes : (old mid new : Atoms) (b : Bool) (r : Result (Unit {0}) (Stop Fault)) → ComesOver (whether_within passes IsFrozenType v.sem at) old (Ok b) mid
        → ComesOver (unless b ReadOnlyHolds at) mid r new → ComesOver (is_frozen passes e at) old r new
    frozen-goes old mid new b r h k =
        over-on (whether_within passes IsFrozenType (sem e) at) (λ c. unless c ReadOnlyHolds at) old mid new b r
        (subst (λ (y : Ty). ComesOver (whether_within passes IsFrozenType y.sem at) old (Ok b) mid) is h) k

    pub frozen-stops : (old new : Atoms) (stop : Stop Fault) → ComesOver (whether_within passes IsFrozenType v.sem at) old (Err stop) new
        → ComesOver (is_frozen passes e at) old (Err stop) new
    frozen-stops old new stop h =
        over-stops (whether_within passes IsFrozenType (sem e) at) (λ c. unless c ReadOnlyHolds at) old new stop
        (subst (λ (y : Ty). ComesOver (whether_within passes IsFrozenType y.sem at) old (Err stop) new) is h)

  -- what is immutable gives a copy of its type
  pub frozen-copied : (old mid : Atoms) (made : Result Ty NoMemory) (r : Result Ty (Stop Fault)) → r ≡ lifted made → ComesOver (is_frozen passes e at) old (Ok tt) mid
      → IfOk made (IsCopy (type_of e).value) → ComesOver (frozen_so passes e at) old r mid
  frozen-copied old mid made r is h k =
      over-on (is_frozen passes e at) (λ u. some_over (λ env t. IsCopy (type_of e).value t)) old mid mid tt r h (made-over (λ env t. IsCopy (type_of e).value t) mid made r is k)

  pub frozen-not : (old new : Atoms) (stop : Stop Fault) → ComesOver (is_frozen passes e at) old (Err stop) new → ComesOver (frozen_so passes e at) old (Err stop) new
  frozen-not old new stop h = over-stops (is_frozen passes e at) (λ u. some_over (λ env t. IsCopy (type_of e).value t)) old new stop h
