-- Limits of questions to which the fillers of lists lead.
use Rattle.std.proofs.Common.{◌≡◌, List, Result, Ok, Err, IsErr, IsErrAnd, subst, sym}
use Rattle.bal_base.specs.declared.stop.Stop.{Stop}
use Rattle.bal_base.specs.declared.stop.Stop.TheVariants.{Fault, Memory}
use Rattle.bal_base.specs.Stops.{IfFault}
use Rattle.type_model.specs.declared.answers.TypeLimit.{TypeLimit}
use Rattle.type_model.specs.declared.atoms.AtomDef.{AtomDef}
use Rattle.type_model.specs.Calls.{Asked}
use Rattle.code_verifier.specs.LedTo.{SomePasses}
use Rattle.code_verifier.proofs.Leading.{stop-passed}

-- behind a question that leaves the atoms as they are
module _ (passes : List AtomDef → Asked → TypeLimit → Type 0) (old env : List AtomDef) (same : env ≡ old) where
  pub leads-on : (L : List AtomDef → Asked → Type 0) (M : Asked → Type 0) → ((asked : Asked) → L old asked → M asked) → {A : Type 0} (r : Result A (Stop TypeLimit)) → IfFault r (SomePasses passes env (L env)) → IfFault r (SomePasses passes old M)
  leads-on L M on (Ok a) h = tt
  leads-on L M on (Err Memory) h = tt
  leads-on L M on (Err (Fault limit)) h = by (subst (λ (e : List AtomDef). SomePasses passes e (L e) limit) same h)
    where
      by : SomePasses passes old (L old) limit → SomePasses passes old M limit
      by (asked, leads, p) = (asked, on asked leads, p)

  -- the same of a stop that is handed on
  pub stops-on : (L : List AtomDef → Asked → Type 0) (M : Asked → Type 0) → ((asked : Asked) → L old asked → M asked) → (A B : Type 0) (stop : Stop TypeLimit) (r : Result B (Stop TypeLimit)) → IsErr r × IsErrAnd r (λ e. e ≡ stop)
      → IfFault {T = A} (Err stop) (SomePasses passes env (L env)) → IfFault r (SomePasses passes old M)
  stops-on L M on A B stop (Ok b) h k = tt
  stops-on L M on A B stop (Err s) h k =
      leads-on L M on {A = B} (Err s) (subst (λ (e : Stop TypeLimit). IfFault {T = B} (Err e) (SomePasses passes env (L env))) (sym h.1) (stop-passed (SomePasses passes env (L env)) A B stop k))
