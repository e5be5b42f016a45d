-- Types that are widened: kind by kind it is asked whether the type is below one.
use Rattle.std.proofs.Common.{◌≡◌, ◌<◌, ◌≤◌, ◌+◌, ◌∙◌, ap, ℕ, Bool, true, false, List, ◌∷◌, Result, Ok, Err, length, get_or, drop, refl, sym, subst}
use Rattle.std.proofs.lemmas.List.{drop_all, drop_more}
use Rattle.bal_base.specs.declared.fault.Fault.{Fault}
use Rattle.bal_base.specs.declared.place.Place.{Place}
use Rattle.bal_base.specs.declared.stop.Stop.{Stop}
use Rattle.checks.specs.Checks.{Check, either}
use Rattle.type_model.specs.declared.answers.TypeLimit.{TypeLimit}
use Rattle.type_model.specs.declared.atoms.AtomDef.{AtomDef}
use Rattle.type_model.specs.Calls.{Asked}
use Rattle.typed_tree.specs.SharedTypes.{Shared, sem_of}
use Rattle.expr_needs.specs.declared.kind.Kind.{Kind}
use Rattle.check_words.specs.State.{State}
use Rattle.check_words.specs.Values.{widened, widens_to}
use Rattle.check_words.specs.Words.{Atoms, OfKind, some_over, whether_within}
use Rattle.check_kinds.specs.declared.widening.TheConstants.{WIDE}
use Rattle.check_kinds.specs.Over.{ComesOver}
use Rattle.check_kinds.proofs.Over.{over-on, over-some, over-stops}

module _ (passes : List AtomDef → Asked → TypeLimit → Type 0) (old : Atoms) (t : Shared) (at : Place) where
  -- what comes of asking for these kinds comes of asking for all
  abbrev pub LeadsOn : List Kind → Type 0
  LeadsOn kinds = (r : Result Shared (Stop Fault)) → ComesOver (widens_to passes kinds t at) old r old → ComesOver (widened passes t at) old r old

  pub all-lead : LeadsOn WIDE
  all-lead r h = h

  -- of those from the i-th one on
  abbrev pub AreLeft : ℕ → Type 0
  AreLeft i = LeadsOn (drop i WIDE)

  left-are : (i : ℕ) (k : Kind) → i < length WIDE → k ≡ get_or WIDE i k → AreLeft i → LeadsOn (k ∷ drop (i + 1) WIDE)
  left-are i k lt is h = subst LeadsOn (drop_more WIDE i k lt ∙ ap (λ j. j ∷ drop (i + 1) WIDE) (sym is)) h

  -- what follows the question of a kind
  abbrev behind : Kind → List Kind → Bool → Check State Shared
  behind k kinds b = either b (some_over (λ env (u : Shared). OfKind k env u.value)) (widens_to passes kinds t at)

  module _ (i : ℕ) (k : Kind) (lt : i < length WIDE) (is : k ≡ get_or WIDE i k) (mid new : Atoms) (before : mid ≡ old) (after : new ≡ mid) (left : AreLeft i) where
    asked : (b : Result Bool (Stop Fault)) → ComesOver (whether_within passes (OfKind k) (sem_of t) at) mid b new → ComesOver (whether_within passes (OfKind k) (sem_of t) at) old b old
    asked b h =
        subst (λ n. ComesOver (whether_within passes (OfKind k) (sem_of t) at) old b n) (after ∙ before)
        (subst (λ n. ComesOver (whether_within passes (OfKind k) (sem_of t) at) n b new) before h)

    pub next-left : ComesOver (whether_within passes (OfKind k) (sem_of t) at) mid (Ok false) new → AreLeft (i + 1)
    next-left h =
        λ r rest. left-are i k lt is left r
        (over-on (whether_within passes (OfKind k) (sem_of t) at) (behind k (drop (i + 1) WIDE)) old old old false r (asked (Ok false) h) rest)

    pub kind-found : (u : Shared) → OfKind k old u.value → ComesOver (whether_within passes (OfKind k) (sem_of t) at) mid (Ok true) new → ComesOver (widened passes t at) old (Ok u) new
    kind-found u of h =
        subst (λ n. ComesOver (widened passes t at) old (Ok u) n) (sym (after ∙ before))
        (left-are i k lt is left (Ok u)
        (over-on (whether_within passes (OfKind k) (sem_of t) at) (behind k (drop (i + 1) WIDE)) old old old true (Ok u) (asked (Ok true) h) (over-some _ old u of)))

    pub kind-stops : (stop : Stop Fault) → ComesOver (whether_within passes (OfKind k) (sem_of t) at) mid (Err stop) new → ComesOver (widened passes t at) old (Err stop) new
    kind-stops stop h =
        subst (λ n. ComesOver (widened passes t at) old (Err stop) n) (sym (after ∙ before))
        (left-are i k lt is left (Err stop)
        (over-stops (whether_within passes (OfKind k) (sem_of t) at) (behind k (drop (i + 1) WIDE)) old old stop (asked (Err stop) h)))

  -- it is below none of them
  pub none-left : (i : ℕ) (new : Atoms) → length WIDE ≤ i → new ≡ old → AreLeft i → ComesOver (widened passes t at) old (Ok t) new
  none-left i new le e h =
      subst (λ n. ComesOver (widened passes t at) old (Ok t) n) (sym e) (subst LeadsOn (drop_all i WIDE le) h (Ok t) (over-some (λ env u. u ≡ t) old t refl))
