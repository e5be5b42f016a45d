-- The checks of the definitions of a package, one behind another.
use Rattle.std.proofs.Common.{◌≡◌, ℕ, suc, ◌+◌, ◌<◌, ◌≤◌, List, [], ◌∷◌, ◌++◌, length, get_or, take, drop, refl, sym, ap, subst, ◌∙◌, append_assoc, arith, Option, None, Some, Result, Ok, Err}
use Rattle.std.specs.Prelude.{slice_get}
use Rattle.std.proofs.lemmas.List.{append-nil, drop_all}
use Rattle.bal_base.specs.declared.fault.Fault.{Fault}
use Rattle.bal_base.specs.declared.stop.Stop.{Stop}
use Rattle.bal_base.specs.declared.stop.Stop.TheVariants.{Fault as OwnFault}
use Rattle.checks.specs.Checks.{Comes, refuses}
use Rattle.checks.proofs.Steps.{goes_on, stops, some_is}
use Rattle.name_resolution.specs.declared.outlines.Outline.{Outline}
use Rattle.graphs.specs.Cycles.{IsFirstCycle, IsOnCycle}
use Rattle.std.specs.Option.{option_map}
use Rattle.descriptors.specs.Described.{Atoms}
use Rattle.graphs.specs.Cycles.{IsCycleFound}
use Rattle.name_resolution.specs.Faults.{cycle_fault, definition_fault, definition_named, definitions_named, name_if, names_of, no_cycle, unless}
use Rattle.name_resolution.specs.Resolved.{parts}
use Rattle.graphs.proofs.Rows.{drop-more, take-more}

abbrev Answer : Type 0
Answer = Result (Unit {0}) (Stop Fault)

-- ---- one definition

no-cycle : (outlines : List Outline) (n : ℕ) (d : Outline) (env : Atoms) → (IsOnCycle (parts outlines) n → ⊥) → Comes (no_cycle outlines n d) env (Ok tt) env
unfolding Comes no_cycle
no-cycle outlines n d env free = (free, refl)

is-cycle : (outlines : List Outline) (n : ℕ) (d : Outline) (others : List ℕ) (f : Fault) (env : Atoms) → IsFirstCycle (parts outlines) n others → f ≡ cycle_fault outlines n d others
    → Comes (no_cycle outlines n d) env (Err (OwnFault f)) env
unfolding Comes no_cycle
is-cycle outlines n d others f env first is = ((others, first, is), refl)

pub cyclic : (home : ℕ) (outlines : List Outline) (n : ℕ) (d : Outline) (others : List ℕ) (f : Fault) (env : Atoms) → IsFirstCycle (parts outlines) n others → f ≡ cycle_fault outlines n d others
    → Comes (definition_named outlines home n d) env (Err (OwnFault f)) env
cyclic home outlines n d others f env first is =
    stops (no_cycle outlines n d) (λ u. unless (definition_fault outlines home n d)) env env (OwnFault f) (is-cycle outlines n d others f env first is)

pub acyclic : (home : ℕ) (outlines : List Outline) (n : ℕ) (d : Outline) (env : Atoms) (r : Answer) → (IsOnCycle (parts outlines) n → ⊥) → Comes (unless (definition_fault outlines home n d)) env r env
    → Comes (definition_named outlines home n d) env r env
acyclic home outlines n d env r free rest =
    goes_on (no_cycle outlines n d) (λ u. unless (definition_fault outlines home n d)) env env env tt r (no-cycle outlines n d env free) rest

pub unless-none : (o : Option Fault) (env : Atoms) → o ≡ None → Comes (unless o) env (Ok tt) env
unless-none o env e = subst (λ p. Comes (unless p) env (Ok tt) env) (sym e) (some_is (λ old u. u ≡ tt) env env tt refl refl)

this-fault : (f : Fault) (env : Atoms) → Comes (unless (Some f)) env (Err (OwnFault f)) env
unfolding Comes refuses
this-fault f env = (refl, refl)

pub unless-some : (o : Option Fault) (f : Fault) (env : Atoms) → o ≡ Some f → Comes (unless o) env (Err (OwnFault f)) env
unless-some o f env e = subst (λ p. Comes (unless p) env (Err (OwnFault f)) env) (sym e) (this-fault f env)

-- ---- several from the front

module _ (home : ℕ) (outlines front : List Outline) where
  -- what is left comes to what the whole comes to
  abbrev pub Left : ℕ → Type 0
  Left n = (env : Atoms) (r : Answer) → Comes (definitions_named outlines home n (drop n front)) env r env → Comes (definitions_named outlines home 0 front) env r env

  pub one-named : (n : ℕ) (d : Outline) → n < length front → d ≡ get_or front n d → Left n → ((env : Atoms) → Comes (definition_named outlines home n d) env (Ok tt) env) → Left (n + 1)
  one-named n d lt is left done env r h = left env r (subst (λ ds. Comes (definitions_named outlines home n ds) env r env) (sym (drop-more front n d lt is))
      (goes_on (definition_named outlines home n d) (λ u. definitions_named outlines home (suc n) (drop (n + 1) front)) env env env tt r (done env)
      (subst (λ k. Comes (definitions_named outlines home k (drop (n + 1) front)) env r env) (omega arith) h)))

  pub one-stops : (n : ℕ) (d : Outline) (stop : Stop Fault) → n < length front → d ≡ get_or front n d → Left n → (env : Atoms) → Comes (definition_named outlines home n d) env (Err stop) env
      → Comes (definitions_named outlines home 0 front) env (Err stop) env
  one-stops n d stop lt is left env h = left env (Err stop) (subst (λ ds. Comes (definitions_named outlines home n ds) env (Err stop) env) (sym (drop-more front n d lt is))
      (stops (definition_named outlines home n d) (λ u. definitions_named outlines home (suc n) (drop (n + 1) front)) env env stop h))

  pub none-left : (n : ℕ) → length front ≤ n → Left n → (env : Atoms) → Comes (definitions_named outlines home 0 front) env (Ok tt) env
  none-left n le left env = left env (Ok tt) (subst (λ ds. Comes (definitions_named outlines home n ds) env (Ok tt) env) (sym (drop_all n front le))
      (some_is (λ old u. u ≡ tt) env env tt refl refl))

-- ---- names of a cycle

names-push : (outlines : List Outline) (ns : List ℕ) (n : ℕ) → names_of outlines (ns ++ n ∷ []) ≡ names_of outlines ns ++ name_if (slice_get outlines n)
names-push outlines [] n = append-nil (name_if (slice_get outlines n))
names-push outlines (m ∷ ns) n =
    ap (λ ks. name_if (slice_get outlines m) ++ ks) (names-push outlines ns n) ∙ sym (append_assoc (name_if (slice_get outlines m)) (names_of outlines ns) (name_if (slice_get outlines n)))

pub names-more : (outlines : List Outline) (first : ℕ) (ns : List ℕ) (i n : ℕ) (mid new : List (List ℕ)) → i < length ns → n ≡ get_or ns i n
    → mid ≡ names_of outlines (first ∷ take i ns) → new ≡ mid ++ name_if (slice_get outlines n) → new ≡ names_of outlines (first ∷ take (i + 1) ns)
names-more outlines first ns i n mid new lt is before next =
    next ∙ ap (λ ks. ks ++ name_if (slice_get outlines n)) before
    ∙ sym (ap (λ ks. names_of outlines (first ∷ ks)) (take-more ns i n lt is) ∙ names-push outlines (first ∷ take i ns) n)

-- what a search found, in the graph of the package
pub found-as : {X : Type 0} (items : X → List ℕ) (a b : List (List ℕ)) (first : ℕ) (o p : Option X) → a ≡ b → o ≡ p → IsCycleFound a first (option_map items o) → IsCycleFound b first (option_map items p)
found-as items a b first o p same is found = subst (λ q. IsCycleFound b first (option_map items q)) is (subst (λ g. IsCycleFound g first (option_map items o)) same found)

abbrev pub no_outline : Option Outline
no_outline = None
