-- Limits that are handed on from a loop, over the atoms that were there first.
use Rattle.std.proofs.Common.{◌≡◌, List, Result, Ok, Err, IsErr, IsErrAnd, subst, sym}
use Rattle.bal_base.specs.declared.stop.Stop.{Stop}
use Rattle.bal_base.specs.declared.stop.Stop.TheVariants.{Fault, Memory}
use Rattle.bal_base.specs.Stops.{IfFault}
use Rattle.type_model.specs.declared.answers.TypeLimit.{TypeLimit}
use Rattle.type_model.specs.declared.atoms.AtomDef.{AtomDef}
use Rattle.type_model.specs.Calls.{Asked}
use Rattle.code_verifier.specs.LedTo.{SomePasses}

module _ (passes : List AtomDef → Asked → TypeLimit → Type 0) (A B : Type 0) (L : List AtomDef → Asked → Type 0) (M : Asked → Type 0) where
  stop-handed : (old : List AtomDef) → ((asked : Asked) → L old asked → M asked) → (stop : Stop TypeLimit) → IfFault {T = A} (Err stop) (SomePasses passes old (L old)) → IfFault {T = B} (Err stop) (SomePasses passes old M)
  stop-handed old on Memory k = tt
  stop-handed old on (Fault limit) (asked, leads, p) = (asked, on asked leads, p)

  pub handed-on : (old env : List AtomDef) → env ≡ old → ((asked : Asked) → L old asked → M asked) → (stop : Stop TypeLimit) (r : Result B (Stop TypeLimit)) → IsErr r × IsErrAnd r (λ e. e ≡ stop)
      → IfFault {T = A} (Err stop) (SomePasses passes env (L env)) → IfFault r (SomePasses passes old M)
  handed-on old env same on stop (Ok b) h k = tt
  handed-on old env same on stop (Err s) h k =
      subst (λ (e : Stop TypeLimit). IfFault {T = B} (Err e) (SomePasses passes old M)) (sym h.1) (stop-handed old on stop (subst (λ (e : List AtomDef). IfFault {T = A} (Err stop) (SomePasses passes e (L e))) same k))

-- the same of a call behind which nothing was added
pub led-on : (passes : List AtomDef → Asked → TypeLimit → Type 0) (L : List AtomDef → Asked → Type 0) (M : Asked → Type 0) (old env : List AtomDef) → env ≡ old → ((asked : Asked) → L old asked → M asked)
    → {A : Type 0} (r : Result A (Stop TypeLimit)) → IfFault r (SomePasses passes env (L env)) → IfFault r (SomePasses passes old M)
led-on passes L M old env same on (Ok a) h = tt
led-on passes L M old env same on (Err Memory) h = tt
led-on passes L M old env same on (Err (Fault limit)) h = by (subst (λ (e : List AtomDef). SomePasses passes e (L e) limit) same h)
  where
    by : SomePasses passes old (L old) limit → SomePasses passes old M limit
    by (asked, leads, p) = (asked, on asked leads, p)
