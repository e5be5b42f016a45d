-- An operation that can't be done yet can't be done later either, as long as its need is not met.
use Rattle.std.proofs.Common.{◌≡◌, ◌∙◌, ℕ, true, false, List, [], ◌∷◌, Option, Some, None, IsSomeAnd, refl, sym, subst, ap}
use Rattle.std.specs.Prelude.{filter, if◌then◌else◌, option_map, slice_get}
use Rattle.bal_base.specs.declared.text.Text.{Text}
use Rattle.operations.specs.declared.operation.Operation.{Operation}
use Rattle.operations.specs.declared.operation.Operation.TheVariants.{Flush, Done, Receive, WaitWorker, WaitFuture, WaitAny, WaitAll}
use Rattle.value_model.specs.declared.value.Value.{Value}
use Rattle.value_model.specs.declared.value.Value.TheVariants.{Future}
use Rattle.value_model.specs.Meaning.{Answers}
use Rattle.op_model.specs.Common.{AllEnded, AnyGiven, Caller, Common, Need, Received, Role}
use Rattle.op_model.specs.Effects.{Waits}
use Rattle.op_model.specs.ProgramFacts.{ProgramFacts}
use Rattle.op_model.specs.Operands.{AFuture, NoOperand, One}
use Rattle.op_model.specs.Performs.{Performs}
use Rattle.op_model.specs.Strands.{activation_at, channel_at, has_success, met}
use Rattle.op_model.specs.Waits.{Target, chosen, field_names, future_target, gives_chosen, gives_results, collects, strands_in, targets, waits_all, waits_any, with_target, worker_target}
use Rattle.machine_model.proofs.Shapes.{WaitsAs, flushes-waits, in-some, receives-waits, waits-waits}

-- ---- on the same operands

map-none : (vs : List Value) {P Q : Type 0} → NoOperand vs P → (P → Q) → NoOperand vs Q
map-none [] h k = k h
map-none (v ∷ vs) h k = absurd h

map-one : (vs : List Value) {P Q : Value → Type 0} → One vs P → ((v : Value) → P v → Q v) → One vs Q
map-one (v ∷ []) h k = k v h
map-one [] h k = absurd h
map-one (v ∷ w ∷ vs) h k = absurd h

map-future : (v : Value) {P Q : ℕ → Type 0} → AFuture v P → ((n : ℕ) → P n → Q n) → AFuture v Q
map-future (Future n unit) h k = k n h
map-future _ h k = absurd h

map-some : {A : Type 0} (o : Option A) {P Q : A → Type 0} → IsSomeAnd o P → ((a : A) → o ≡ Some a → P a → Q a) → IsSomeAnd o Q
map-some (Some a) h k = k a refl h
map-some None h k = absurd h

-- ---- it waits

any-waits : (c : Common) (ts : List Target) → met c (AnyGiven (strands_in ts)) ≡ false → waits_any c ts ≡ Waits (AnyGiven (strands_in ts))
any-waits c ts e = ap (λ b. if b then gives_chosen c (chosen c (filter (λ t. has_success c t.strand) ts) ts) else Waits (AnyGiven (strands_in ts))) e

all-waits : (c : Common) (atom : ℕ) (names : List Text) (ts : List Target) → met c (AllEnded (strands_in ts)) ≡ false → waits_all c atom names ts ≡ Waits (AllEnded (strands_in ts))
all-waits c atom names ts e = ap (λ b. if b then gives_results atom names (collects ts c) else Waits (AllEnded (strands_in ts))) e

module _ (facts : ProgramFacts) (natives : Answers) where
  pub still-performs : (op : Operation) (vs : List Value) (caller : Caller) (c : Common) (need : Need) → WaitsAs facts op vs caller c need → met c need ≡ false → Performs facts natives op vs caller c (Waits need)
  still-performs (Receive w) vs caller c need h unmet =
      map-none vs h (λ k. map-some caller.role k (λ r is e. ap Waits e ∙ sym (receives-waits c r w (subst (λ n. met c n ≡ false) e unmet))))
  still-performs (Done w) vs caller c need h unmet =
      map-none vs h (λ k. map-some caller.role k (λ r is e. ap Waits e ∙ sym (flushes-waits c r w (subst (λ n. met c n ≡ false) e unmet))))
  still-performs (Flush w) vs caller c need h unmet =
      map-none vs h (λ k. map-some caller.role k (λ r is e. ap Waits e ∙ sym (flushes-waits c r w (subst (λ n. met c n ≡ false) e unmet))))
  still-performs (WaitWorker w) vs caller c need h unmet =
      map-none vs h (λ k. map-some caller.role k (λ r is k. map-some (worker_target c r w) k (λ t there e. ap Waits e ∙ sym (waits-waits c t (subst (λ n. met c n ≡ false) e unmet)))))
  still-performs WaitFuture vs caller c need h unmet =
      map-one vs h (λ v k. map-future v k (λ n e. ap Waits e ∙ sym (waits-waits c (future_target n) (subst (λ n. met c n ≡ false) e unmet))))
  still-performs (WaitAny names) vs caller c need h unmet =
      map-some (targets c caller.role names vs) h (λ ts is e. ap Waits e ∙ sym (any-waits c ts (subst (λ n. met c n ≡ false) e unmet)))
  still-performs (WaitAll atom names) vs caller c need h unmet =
      map-some (slice_get facts.atoms atom) h (λ d there k. map-some (targets c caller.role names vs) k (λ ts is e. ap Waits e ∙ sym (all-waits c atom (field_names d) ts (subst (λ n. met c n ≡ false) e unmet))))
  still-performs _ vs caller c need h unmet = absurd h

  -- ---- it waits for the same later, where the strands of workers stay, and what this worker has sent

  module _ (c d : Common) (calls : (a w n : ℕ) → slice_get (activation_at c a).strands w ≡ Some n → slice_get (activation_at d a).strands w ≡ Some n) where
    target-stays : (r : Role) (w : ℕ) (t : Target) → worker_target c r w ≡ Some t → worker_target d r w ≡ Some t
    target-stays r w t e = by (slice_get (activation_at c r.activation).strands w) refl e
      where
        by : (o : Option ℕ) → slice_get (activation_at c r.activation).strands w ≡ o → option_map (λ n. record { strand = n; is_worker = true }) o ≡ Some t → worker_target d r w ≡ Some t
        by (Some n) is e = ap (option_map (λ n. record { strand = n; is_worker = true })) (calls r.activation w n is) ∙ e
        by None is e = absurd (let bad : ⊥ = cc in bad)

    with-both : (o p : Option Target) (os ps : Option (List Target)) (ts : List Target) → with_target o os ≡ Some ts → ((t : Target) → o ≡ Some t → p ≡ Some t) → ((us : List Target) → os ≡ Some us → ps ≡ Some us) → with_target p ps ≡ Some ts
    with-both (Some t) p (Some us) ps ts e h k = (λ i. with_target (h t refl i) (k us refl i)) ∙ e
    with-both (Some t) p None ps ts e h k = absurd (let bad : ⊥ = cc in bad)
    with-both None p os ps ts e h k = absurd (let bad : ⊥ = cc in bad)

    targets-stay : (role : Option Role) (names : List (Option ℕ)) (vs : List Value) (ts : List Target) → targets c role names vs ≡ Some ts → targets d role names vs ≡ Some ts
    targets-stay (Some r) [] [] ts e = e
    targets-stay None [] [] ts e = e
    targets-stay (Some r) [] (v ∷ vs) ts e = absurd (let bad : ⊥ = cc in bad)
    targets-stay None [] (v ∷ vs) ts e = absurd (let bad : ⊥ = cc in bad)
    targets-stay (Some r) (Some worker ∷ names) vs ts e =
        with-both (worker_target c r worker) (worker_target d r worker) (targets c (Some r) names vs) (targets d (Some r) names vs) ts e (λ t is. target-stays r worker t is) (λ us is. targets-stay (Some r) names vs us is)
    targets-stay None (Some worker ∷ names) vs ts e = absurd (let bad : ⊥ = cc in bad)
    targets-stay (Some r) (None ∷ names) (Future n unit ∷ vs) ts e =
        with-both (Some (future_target n)) (Some (future_target n)) (targets c (Some r) names vs) (targets d (Some r) names vs) ts e (λ t is. is) (λ us is. targets-stay (Some r) names vs us is)
    targets-stay None (None ∷ names) (Future n unit ∷ vs) ts e =
        with-both (Some (future_target n)) (Some (future_target n)) (targets c None names vs) (targets d None names vs) ts e (λ t is. is) (λ us is. targets-stay None names vs us is)
    targets-stay (Some r) (None ∷ names) _ ts e = absurd (let bad : ⊥ = cc in bad)
    targets-stay None (None ∷ names) _ ts e = absurd (let bad : ⊥ = cc in bad)

    same-target : (P : Target → Type 0) (r : Role) (w : ℕ) → IsSomeAnd (worker_target c r w) P → IsSomeAnd (worker_target d r w) P
    same-target P r w h = in-some (worker_target c r w) h (λ t is p. subst (λ o. IsSomeAnd o P) (sym (target-stays r w t is)) p)

    same-targets : (P : List Target → Type 0) (role : Option Role) (names : List (Option ℕ)) (vs : List Value) → IsSomeAnd (targets c role names vs) P → IsSomeAnd (targets d role names vs) P
    same-targets P role names vs h = in-some (targets c role names vs) h (λ ts is p. subst (λ o. IsSomeAnd o P) (sym (targets-stay role names vs ts is)) p)

    pub waits-stay : (op : Operation) (vs : List Value) (caller : Caller) (need : Need) → ((r : Role) → caller.role ≡ Some r → (w : ℕ) → (channel_at d r.activation r.worker w).sent ≡ (channel_at c r.activation r.worker w).sent) → WaitsAs facts op vs caller c need → WaitsAs facts op vs caller d need
    waits-stay (Receive w) vs caller need sent h = h
    waits-stay (Done w) vs caller need sent h = map-none vs h (λ k. map-some caller.role k (λ r is e. e ∙ ap (Received r.activation r.worker w) (sym (sent r is w))))
    waits-stay (Flush w) vs caller need sent h = map-none vs h (λ k. map-some caller.role k (λ r is e. e ∙ ap (Received r.activation r.worker w) (sym (sent r is w))))
    waits-stay (WaitWorker w) vs caller need sent h = map-none vs h (λ k. map-some caller.role k (λ r is k. same-target (λ t. need ≡ AllEnded (t.strand ∷ [])) r w k))
    waits-stay WaitFuture vs caller need sent h = h
    waits-stay (WaitAny names) vs caller need sent h = same-targets (λ ts. need ≡ AnyGiven (strands_in ts)) caller.role names vs h
    waits-stay (WaitAll atom names) vs caller need sent h = map-some (slice_get facts.atoms atom) h (λ d there k. same-targets (λ ts. need ≡ AllEnded (strands_in ts)) caller.role names vs k)
    waits-stay _ vs caller need sent h = absurd h
