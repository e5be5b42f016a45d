-- What was made, as an answer.
use Rattle.std.proofs.Common.{◌≡◌, ℕ, Some, None, Result, Ok, Err, IfOk, IfErr, length, slice_get}
use Rattle.bal_base.specs.declared.fault.Fault.{Fault}
use Rattle.bal_base.specs.declared.stop.Memory.{Memory as NoMemory}
use Rattle.bal_base.specs.declared.stop.Stop.{Stop}
use Rattle.bal_base.specs.declared.stop.Stop.TheVariants.{Memory}
use Rattle.descriptors.specs.declared.names.OwnTypes.{OwnTypes}
use Rattle.descriptors.specs.Steps.{AreOwnTypes, lifted}
use Rattle.typed_tree.specs.SharedTypes.{Shared, sem_of}
use Rattle.expr_needs.specs.declared.kind.Kind.TheVariants as kind
use Rattle.check_words.specs.Actions.{NilOrErrors}
use Rattle.check_words.specs.Stands.{SharedBelow}
use Rattle.check_words.specs.State.{Site}
use Rattle.check_words.specs.Words.{Atoms, OfKind}
use Rattle.needs_of_actions.specs.Failing.{IsMessageType}

module _ {A : Type 0} where
  pub lifted-ok : (P : A → Type 0) (m : Result A NoMemory) → IfOk m P → IfOk (lifted m) P
  lifted-ok P (Ok a) h = h
  lifted-ok P (Err e) h = tt

  pub lifted-err : (Q : Stop Fault → Type 0) (m : Result A NoMemory) → Q Memory → IfErr (lifted m) Q
  lifted-err Q (Ok a) q = tt
  lifted-err Q (Err e) q = q

module _ (env : Atoms) (site : Site) where
  pub failing-is : (w : ℕ) (t : Shared) (m : Result Shared NoMemory) → slice_get site.results w ≡ Some (Ok t) → IfOk m (λ u. NilOrErrors (sem_of t) env u.value)
      → IfOk (lifted m) (IsMessageType env site (Some w))
  failing-is w t (Ok u) known h = (t, known, h)
  failing-is w t (Err e) known h = tt

  pub nil-is : (own : OwnTypes) (m : Result Shared NoMemory) → AreOwnTypes env own → IfOk m (λ t. (env : Atoms) → AreOwnTypes env own → OfKind kind.Nothing env t.value)
      → IfOk (lifted m) (IsMessageType env site None)
  nil-is own (Ok t) h is = is env h
  nil-is own (Err e) h is = tt

  pub below-is : (own : OwnTypes) (m : Result Shared NoMemory) → AreOwnTypes env own → IfOk m (λ t. (env : Atoms) → AreOwnTypes env own → SharedBelow (length env) t)
      → IfOk (lifted m) (SharedBelow (length env))
  below-is own (Ok t) h is = is env h
  below-is own (Err e) h is = tt
