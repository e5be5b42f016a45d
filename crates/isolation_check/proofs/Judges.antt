-- Answers of questions, as what is found of a part.
use Rattle.std.proofs.lemmas.List.{at_drop_more, drop_all}
use Rattle.std.proofs.Common.{◌≡◌, ◌∙◌, ◌<◌, ◌≤◌, ◌+◌, ℕ, List, [], ◌∷◌, Some, true, false, ap, drop, get_or, length, refl, sym, subst, inl, inr}
use Rattle.std.specs.Prelude.{Bool, Result, Ok, Err}
use Rattle.bal_base.specs.declared.fault.Fault.{Fault}
use Rattle.bal_base.specs.declared.place.Place.{Place}
use Rattle.bal_base.specs.declared.stop.Stop.{Stop}
use Rattle.bal_base.specs.declared.stop.Stop.TheVariants.{Memory, Fault as OwnFault}
use Rattle.bal_base.specs.declared.text.Name.{Name}
use Rattle.type_model.specs.declared.answers.TypeLimit.{TypeLimit}
use Rattle.type_model.specs.declared.atoms.AtomDef.{AtomDef}
use Rattle.type_model.specs.declared.basic.BasicSet.TheVariants.{Readonly}
use Rattle.type_model.specs.declared.basic.SemType.{SemType, Basic}
use Rattle.type_model.specs.Calls.{Asked}
use Rattle.typed_tree.specs.declared.package.ModuleVariable.{ModuleVariable}
use Rattle.typed_tree.specs.declared.unit.Captured.{Captured}
use Rattle.typed_tree.specs.SharedTypes.{sem_of}
use Rattle.checks.specs.Checks.{Comes, Gives, Refuses, either, gives_some, refuses, ◌▷◌}
use Rattle.checks.specs.Questions.{is_below}
use Rattle.isolation_check.specs.inner.Judging.{Judged}
use Rattle.isolation_check.specs.Walk.{are_readonly, has_to_be, is_steady, not_isolated}

module _ (passes : List AtomDef → Asked → TypeLimit → Type 0) (names : List Name) (at : Place) (env : List AtomDef) where
  -- the answer of a question
  pub judged-below : (s t : SemType) (new : List AtomDef) (r : Result Bool (Stop Fault)) → new ≡ env → Comes (is_below passes s t (Some at)) env r new
      → Judged (has_to_be passes s t names at) names at env r
  unfolding Comes ◌▷◌ gives_some refuses
  judged-below s t new (Ok true) same h = (true, env, subst (λ m. is_below passes s t (Some at) env (Gives true) m) same h, (refl, refl))
  judged-below s t new (Ok false) same h = λ f is. inr (false, env, subst (λ m. is_below passes s t (Some at) env (Gives false) m) same h, (is, refl))
  judged-below s t new (Err (OwnFault f)) same h = inl (subst (λ m. is_below passes s t (Some at) env (Refuses f) m) same h)
  judged-below s t new (Err Memory) same h = tt

  -- of captured variables the first
  pub judged-first : (c : Captured) (cs : List Captured) (r : Result Bool (Stop Fault)) → Judged (has_to_be passes (sem_of c.ty) (Basic Readonly) names at) names at env (Ok true)
      → Judged (are_readonly passes cs names at) names at env r → Judged (are_readonly passes (c ∷ cs) names at) names at env r
  unfolding ◌▷◌
  judged-first c cs (Ok true) h k = (tt, env, h, k)
  judged-first c cs (Ok false) h k = λ f is. inr (tt, env, h, k f is)
  judged-first c cs (Err (OwnFault f)) h k = inr (tt, env, h, k)
  judged-first c cs (Err Memory) h k = tt

  -- which isn't of an immutable type, or whose question is too large
  pub judged-broken : (c : Captured) (cs : List Captured) → Judged (has_to_be passes (sem_of c.ty) (Basic Readonly) names at) names at env (Ok false)
      → Judged (are_readonly passes (c ∷ cs) names at) names at env (Ok false)
  unfolding ◌▷◌
  judged-broken c cs h = λ f is. inl (h f is)

  pub judged-stopped : (c : Captured) (cs : List Captured) (stop : Stop Fault) → Judged (has_to_be passes (sem_of c.ty) (Basic Readonly) names at) names at env (Err stop)
      → Judged (are_readonly passes (c ∷ cs) names at) names at env (Err stop)
  unfolding ◌▷◌
  judged-stopped c cs (OwnFault f) h = inl h
  judged-stopped c cs Memory h = tt

  pub judged-none : Judged (are_readonly passes [] names at) names at env (Ok true)
  unfolding gives_some
  judged-none = (refl, refl)

  -- ---- a loop over captured variables: what is found of the rest is found from this one on

  module _ (captured : List Captured) (i : ℕ) (c : Captured) (lt : i < length captured) (is : c ≡ get_or captured i c) (cur : List AtomDef) (same : cur ≡ env) where
    from-here : drop i captured ≡ c ∷ drop (i + 1) captured
    from-here = at_drop_more (λ cs. cs) captured i c lt ∙ ap (λ x. x ∷ drop (i + 1) captured) (sym is)

    over-these : (r : Result Bool (Stop Fault)) → Judged (has_to_be passes (sem_of c.ty) (Basic Readonly) names at) names at cur r → Judged (has_to_be passes (sem_of c.ty) (Basic Readonly) names at) names at env r
    over-these r h = subst (λ m. Judged (has_to_be passes (sem_of c.ty) (Basic Readonly) names at) names at m r) same h

    pub next-kept : Judged (has_to_be passes (sem_of c.ty) (Basic Readonly) names at) names at cur (Ok true) → (r : Result Bool (Stop Fault))
        → Judged (are_readonly passes (drop (i + 1) captured) names at) names at env r → Judged (are_readonly passes (drop i captured) names at) names at env r
    next-kept h r k = subst (λ cs. Judged (are_readonly passes cs names at) names at env r) (sym from-here) (judged-first c (drop (i + 1) captured) r (over-these (Ok true) h) k)

    pub next-broken : Judged (has_to_be passes (sem_of c.ty) (Basic Readonly) names at) names at cur (Ok false) → Judged (are_readonly passes (drop i captured) names at) names at env (Ok false)
    next-broken h = subst (λ cs. Judged (are_readonly passes cs names at) names at env (Ok false)) (sym from-here) (judged-broken c (drop (i + 1) captured) (over-these (Ok false) h))

    pub next-stopped : (stop : Stop Fault) → Judged (has_to_be passes (sem_of c.ty) (Basic Readonly) names at) names at cur (Err stop) → Judged (are_readonly passes (drop i captured) names at) names at env (Err stop)
    next-stopped stop h = subst (λ cs. Judged (are_readonly passes cs names at) names at env (Err stop)) (sym from-here) (judged-stopped c (drop (i + 1) captured) stop (over-these (Err stop) h))

  pub none-left : (captured : List Captured) (i : ℕ) → length captured ≤ i → Judged (are_readonly passes (drop i captured) names at) names at env (Ok true)
  none-left captured i le = subst (λ cs. Judged (are_readonly passes cs names at) names at env (Ok true)) (sym (drop_all i captured le)) judged-none

  -- ---- module variables

  pub variable-final : (v : ModuleVariable) (r : Result Bool (Stop Fault)) → v.is_final ≡ true → Judged (has_to_be passes (sem_of v.ty) (Basic Readonly) names at) names at env r
      → Judged (is_steady passes (Some v) names at) names at env r
  variable-final v r is h = subst (λ b. Judged (either b (has_to_be passes (sem_of v.ty) (Basic Readonly) names at) (not_isolated names at)) names at env r) (sym is) h

  pub variable-changes : (v : ModuleVariable) → v.is_final ≡ false → Judged (is_steady passes (Some v) names at) names at env (Ok false)
  unfolding refuses
  variable-changes v is = subst (λ b. Judged (either b (has_to_be passes (sem_of v.ty) (Basic Readonly) names at) (not_isolated names at)) names at env (Ok false)) (sym is) (λ f told. (told, refl))
