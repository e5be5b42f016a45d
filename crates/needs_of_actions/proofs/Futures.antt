-- Names in waits: what is known of them, as what the needs mean.
use Rattle.std.proofs.Common.{◌≡◌, ℕ, List, Option, Some, Result, Ok, Err, IfOk, inl, inr, slice_get, subst, sym}
use Rattle.bal_base.specs.declared.fault.Fault.{Fault}
use Rattle.bal_base.specs.declared.place.Place.{Place}
use Rattle.bal_base.specs.declared.stop.Memory.{Memory as NoMemory}
use Rattle.bal_base.specs.declared.stop.Stop.{Stop}
use Rattle.bal_base.specs.declared.stop.Stop.TheVariants.{Memory, Fault as OwnFault}
use Rattle.bal_tree.specs.declared.name.QualifiedName.{QualifiedName}
use Rattle.checks.specs.Checks.{Check, Comes, ◌▷◌}
use Rattle.checks.specs.Questions.{member}
use Rattle.checks.proofs.Steps.{ran_out, stops}
use Rattle.descriptors.specs.declared.names.Names.{Names}
use Rattle.descriptors.specs.Steps.{lifted}
use Rattle.operations.specs.Kinds.{IsError}
use Rattle.type_model.specs.declared.answers.Keys.{Keys}
use Rattle.type_model.specs.declared.answers.Keys.TheVariants.{Results}
use Rattle.type_model.specs.declared.answers.TypeLimit.{TypeLimit}
use Rattle.type_model.specs.declared.atoms.AtomDef.{AtomDef}
use Rattle.type_model.specs.declared.basic.SemType.{SemType}
use Rattle.type_model.specs.declared.basic.Ty.{Ty}
use Rattle.type_model.specs.Calls.{Asked}
use Rattle.type_model.specs.Defined.{IsDefined}
use Rattle.typed_tree.specs.declared.expr.TypedExpr.{TypedExpr}
use Rattle.typed_tree.specs.Exprs.{type_of}
use Rattle.typed_tree.specs.SharedTypes.{Shared}
use Rattle.expr_needs.specs.declared.kind.Kind.TheVariants as kind
use Rattle.check_words.specs.Actions.{awaits, awaits_by}
use Rattle.check_words.specs.Members.{member_at}
use Rattle.check_words.specs.Seen.{worker_named}
use Rattle.check_words.specs.Sharing.{SameShared}
use Rattle.check_words.specs.State.{IsLast, State}
use Rattle.check_words.specs.Words.{Atoms, EitherOf, OfKind, is_of, is_within, sem, some_over, wants}
use Rattle.check_words.proofs.Coming.{given, next, regroup}
use Rattle.check_kinds.specs.Over.{ComesOver}
use Rattle.check_kinds.proofs.Over.{over-asks, over-at, over-on, over-out, over-some, over-stops}
use Rattle.needs_of_actions.specs.Failing.{IsToldOf}
use Rattle.needs_of_actions.specs.Futures.{IsResultOf, gives_given, wants_given, wants_part, wants_result_of}
use Rattle.needs_of_actions.proofs.PeersNamed.{result-known, result-refused, site-now}

-- where what comes first stops
stopped-first : {A B C : Type 0} (m : Check State A) (n : A → Check State B) (k : B → Check State C) (old new : State) (stop : Stop Fault) → Comes (m ▷ n) old (Err stop) new
    → Comes (m ▷ λ a. n a ▷ k) old (Err stop) new
unfolding Comes ◌▷◌
stopped-first m n k old new (OwnFault f) (inl h) = inl h
stopped-first m n k old new (OwnFault f) (inr (a, mid, h, g)) = inr (a, mid, h, inl g)
stopped-first m n k old new Memory h = tt

module _ (passes : List AtomDef → Asked → TypeLimit → Type 0) (at : Place) where
  pub member-defined : (t : SemType) (keys : Keys) (old new : Atoms) (m : SemType) → Comes (member passes t keys (Some at)) old (Ok m) new → IsDefined old m
  unfolding Comes member
  member-defined t keys old new m h = h.0

  module _ (e : TypedExpr) (u : Ty) (same : u ≡ (type_of e).value) (env new : Atoms) where
    pub given-over : (m : SemType) (made : Result Shared NoMemory) (r : Result Shared (Stop Fault)) → r ≡ lifted made → Comes (member passes u.sem Results (Some at)) env (Ok m) new → new ≡ env
        → IfOk made (λ t. EitherOf m IsError new t.value) → ComesOver (gives_given passes e at) env r new
    given-over m (Ok t) r is h kept of =
        subst (λ q. ComesOver (gives_given passes e at) env q new) (sym is)
        (over-on (member_at passes (sem e) Results at) (λ k. some_over (λ old (v : Shared). EitherOf k IsError old v.value)) env new new m (Ok t)
        (over-asks (member passes (sem e) Results (Some at)) env new (Ok m) (subst (λ (v : Ty). Comes (member passes v.sem Results (Some at)) env (Ok m) new) same h))
        (over-some (λ old (v : Shared). EitherOf m IsError old v.value) new t of))
    given-over m (Err x) r is h kept of = subst (λ q. ComesOver (gives_given passes e at) env q new) (sym is) (over-out (gives_given passes e at) env new)

    pub given-refused : (stop : Stop Fault) → Comes (member passes u.sem Results (Some at)) env (Err stop) new → ComesOver (gives_given passes e at) env (Err stop) new
    given-refused stop h =
        over-stops (member_at passes (sem e) Results at) (λ k. some_over (λ old (v : Shared). EitherOf k IsError old v.value)) env new stop
        (over-asks (member passes (sem e) Results (Some at)) env new (Err stop) (subst (λ (v : Ty). Comes (member passes v.sem Results (Some at)) env (Err stop) new) same h))

  module _ (s : State) (e : TypedExpr) (last : IsLast s.found e) (env : Atoms) where
    pub part-wanted : (t : Shared) (r : Result (Unit {0}) (Stop Fault)) (new : State) → ComesOver (gives_given passes e at) s.atoms (Ok t) env
        → Comes (wants (Some t)) (record s { atoms = env }) r new → Comes (wants_part passes at) s r new
    part-wanted t r new h k =
        next _ _ _ _ _ e s (given _ s e last)
        (regroup (member_at passes (sem e) Results at) (λ m. some_over (λ old (v : Shared). EitherOf m IsError old v.value)) (λ v. wants (Some v)) s (record s { atoms = env }) new t r
        (over-at (gives_given passes e at) s (Ok t) env h) k)

    pub part-refused : (stop : Stop Fault) → ComesOver (gives_given passes e at) s.atoms (Err stop) env → Comes (wants_part passes at) s (Err stop) (record s { atoms = env })
    part-refused stop h =
        next _ _ _ _ _ e s (given _ s e last)
        (stopped-first (member_at passes (sem e) Results at) (λ m. some_over (λ old (v : Shared). EitherOf m IsError old v.value)) (λ v. wants (Some v)) s (record s { atoms = env }) stop
        (over-at (gives_given passes e at) s (Err stop) env h))

    module _ (u : Ty) (same : u ≡ (type_of e).value) where
      future : (r : Result (Unit {0}) (Stop Fault)) → ComesOver (is_within passes (OfKind kind.AnyFuture) u.sem at) s.atoms r env → Comes (is_of passes kind.AnyFuture at) s r (record s { atoms = env })
      future r h =
          next _ _ _ _ _ e s (given _ s e last)
          (over-at (is_within passes (OfKind kind.AnyFuture) (sem e) at) s r env
          (subst (λ (v : Ty). ComesOver (is_within passes (OfKind kind.AnyFuture) v.sem at) s.atoms r env) same h))

      pub future-wanted : (r : Result (Unit {0}) (Stop Fault)) (new : State) → ComesOver (is_within passes (OfKind kind.AnyFuture) u.sem at) s.atoms (Ok tt) env
          → Comes (wants_part passes at) (record s { atoms = env }) r new → Comes (wants_given passes at) s r new
      future-wanted r new h k = next _ _ _ _ _ tt (record s { atoms = env }) (future (Ok tt) h) k

      pub no-future : (stop : Stop Fault) → ComesOver (is_within passes (OfKind kind.AnyFuture) u.sem at) s.atoms (Err stop) env → Comes (wants_given passes at) s (Err stop) (record s { atoms = env })
      no-future stop h = stops _ _ s (record s { atoms = env }) stop (future (Err stop) h)

-- what a worker gives
module _ (s : State) (w : ℕ) where
  pub worker-wanted : (t : Shared) (r : Result (Unit {0}) (Stop Fault)) (new : State) → slice_get s.site.results w ≡ Some (Ok t) → Comes (wants (Some t)) s r new → Comes (wants_result_of w) s r new
  worker-wanted t r new is h = next _ _ _ _ _ t s (result-known s w t is) h

  pub worker-refused : (stop : Stop Fault) → IsToldOf (slice_get s.site.results w) stop → Comes (wants_result_of w) s (Err stop) s
  worker-refused Memory h = ran_out _ s s
  worker-refused (OwnFault f) h = stops _ _ s s (OwnFault f) (result-refused s w f h)

pub awaits-by : (passes : List AtomDef → Asked → TypeLimit → Type 0) (names : Names) (q : QualifiedName) (s new : State) (r : Result (Unit {0}) (Stop Fault)) (k : Option ℕ) → k ≡ worker_named s.site.workers q
    → Comes (awaits_by passes names q k) s r new → Comes (awaits passes names q) s r new
awaits-by passes names q s new r k is h = next _ _ _ _ _ s.site s (site-now s) (subst (λ n. Comes (awaits_by passes names q n) s r new) is h)

-- what a worker gives, by another handle
pub result-is : (known : Option (Result Shared Fault)) (t : Shared) (m : Result Shared NoMemory) → known ≡ Some (Ok t) → IfOk m (SameShared t) → IfOk (lifted m) (IsResultOf known)
result-is known t (Ok u) is h = (t, is, h)
result-is known t (Err e) is h = tt
