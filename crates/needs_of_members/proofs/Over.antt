-- What is made over the atoms that are there.
use Rattle.std.proofs.Common.{◌≡◌, ℕ, Result, Ok, Err, IfOk, length, sym, subst}
use Rattle.bal_base.specs.declared.fault.Fault.{Fault}
use Rattle.bal_base.specs.declared.stop.Memory.{Memory as NoMemory}
use Rattle.bal_base.specs.declared.stop.Stop.{Stop}
use Rattle.descriptors.specs.Described.{plain}
use Rattle.descriptors.specs.Steps.{lifted}
use Rattle.descriptors.proofs.Yielding.{plain-below}
use Rattle.type_model.specs.declared.basic.SemType.{SemType}
use Rattle.type_model.specs.Defined.{NamesBelow, TyBelow}
use Rattle.typed_tree.specs.SharedTypes.{Shared}
use Rattle.check_words.specs.Words.{Atoms, some_over}
use Rattle.check_kinds.specs.Over.{ComesOver}
use Rattle.check_kinds.proofs.Over.{over-out, over-some}
use Rattle.check_members.proofs.TakenMembers.{over-gives}

module _ {A : Type 0} where
  by-made : (P : Atoms → A → Type 0) (env : Atoms) (made : Result A NoMemory) → IfOk made (P env) → ComesOver (some_over P) env (lifted made) env
  by-made P env (Ok a) h = over-some P env a h
  by-made P env (Err m) h = over-out (some_over P) env env

  pub over-lifted : (P : Atoms → A → Type 0) (env : Atoms) (made : Result A NoMemory) (r : Result A (Stop Fault)) → r ≡ lifted made → IfOk made (P env)
      → ComesOver (some_over P) env r env
  over-lifted P env made r e h = subst (λ x. ComesOver (some_over P) env x env) (sym e) (by-made P env made h)

  -- over the same atoms, under another name
  pub over-lifted-at : (P : Atoms → A → Type 0) (env new : Atoms) (made : Result A NoMemory) (r : Result A (Stop Fault)) → new ≡ env → r ≡ lifted made → IfOk made (P env)
      → ComesOver (some_over P) env r new
  over-lifted-at P env new made r same e h = subst (λ n. ComesOver (some_over P) env r n) (sym same) (over-lifted P env made r e h)

  pub lifted-have : (P : A → Type 0) (made : Result A NoMemory) (r : Result A (Stop Fault)) → r ≡ lifted made → IfOk made P → IfOk r P
  lifted-have P made r e h = subst (λ x. IfOk x P) (sym e) (by made h)
    where
      by : (m : Result A NoMemory) → IfOk m P → IfOk (lifted m) P
      by (Ok a) k = k
      by (Err m) k = tt

  -- what holds over all atoms over which something is so
  pub have-at : {E : Type 0} (env : Atoms) (Q : Atoms → Type 0) (P : Atoms → A → Type 0) (r : Result A E) → Q env → IfOk r (λ a. (o : Atoms) → Q o → P o a) → IfOk r (P env)
  have-at env Q P (Ok a) q h = h env q
  have-at env Q P (Err m) q h = tt

pub plain-shared-below : (n : ℕ) (m : SemType) (r : Result Shared NoMemory) → NamesBelow n m → IfOk r (λ t. t.value ≡ plain m) → IfOk r (λ t. TyBelow n t.value)
plain-shared-below n m (Ok t) h e = subst (TyBelow n) (sym e) (plain-below n m h)
plain-shared-below n m (Err e) h k = tt

-- over the same atoms
pub below-at : {E : Type 0} (old new : Atoms) (r : Result Shared E) → new ≡ old → IfOk r (λ t. TyBelow (length new) t.value) → IfOk r (λ t. TyBelow (length old) t.value)
below-at old new r e h = subst (λ n. IfOk r (λ t. TyBelow (length n) t.value)) e h

pub ruleset giving = (over-gives)
