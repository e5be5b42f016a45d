-- Steps of a frame that change nothing that is shared, in runs.
use Rattle.std.proofs.Common.{◌≡◌, ℕ, suc, ◌<◌, ◌≤◌, List, refl, sym, subst, ap, ◌∙◌, arith}
use Rattle.operations.specs.declared.operation.Operation.{Operation}
use Rattle.value_model.specs.declared.value.Value.{Value}
use Rattle.value_model.specs.Meaning.{Answers}
use Rattle.op_model.specs.Common.{Common, Caller}
use Rattle.op_model.specs.Effects.{Effect, Gives}
use Rattle.op_model.specs.Performs.{Performs}
use Rattle.machine_model.specs.Machine.{Machine, On, Does, Frame, State, Next, Moved, Blocked, Ended, NeedsTick, Limit, goes_to, caller, carried, Takes, Step}
use Rattle.machine_model.specs.Runs.{Running, Stop, Runs, moves, blocks, ends, needs_tick, passes}
use Rattle.machine_model.specs.Steps.{state_at}
use Rattle.machine_model.specs.Following.{Quiet, here, step, pass}
use Rattle.machine_model.proofs.Once.{some-same}
use Rattle.machine_model.proofs.Steps.{one-quiet, one-pass}

module _ {C : Type 0} (natives : Answers) (M : Machine C) where
  pub quietly : {caller : Caller} {c : Common} {x y z : C} → Quiet natives M caller c x y → Quiet natives M caller c y z → Quiet natives M caller c x z
  quietly here q = q
  quietly (step e p) q = step e (quietly p q)
  quietly (pass e h u p) q = pass e h u (quietly p q)

  -- ---- a run takes the quiet steps first

  pub same-next : (c : Common) (f : Frame C) (fs : List (Frame C)) (os : List (List (Frame C))) (a b : C) (next : Next C) → M.look f.unit a ≡ On b → Step natives M (state_at c f a fs os) next → next ≡ Moved (state_at c f b fs os)
  same-next c f fs os a b next e h = subst (λ x. Takes natives M (state_at c f a fs os) (goes_to f a) fs x next) e h

  pub same-pass : (c : Common) (f : Frame C) (fs : List (Frame C)) (os : List (List (Frame C))) (a k : C) (op : Operation) (vs ws : List Value) (next : Next C) → M.look f.unit a ≡ Does op vs k → ((effect : Effect) → Performs M.facts natives op vs (caller f fs) c effect → effect ≡ Gives ws c) → Step natives M (state_at c f a fs os) next → next ≡ Moved (state_at c f (M.resume k ws) fs os)
  same-pass c f fs os a k op vs ws next e u h =
      let taken : Takes natives M (state_at c f a fs os) (goes_to f a) fs (Does op vs k) next = subst (λ x. Takes natives M (state_at c f a fs os) (goes_to f a) fs x next) e h in
      some-same next (Moved (state_at c f (M.resume k ws) fs os)) (sym taken.2 ∙ ap (λ z. carried M (state_at c f a fs os) (goes_to f a) k fs z) (u taken.0 taken.1))

  moved-one : (s t : State C) → Moved s ≡ Moved t → s ≡ t
  moved-one s t e = let q : s ≡ t = cc in q

  quiet-first : (c : Common) (f : Frame C) (fs : List (Frame C)) (os : List (List (Frame C))) (order : List ℕ) (stop : Stop) (end : Common) (a b : C) (m : ℕ) (s : State C) → ((next : Next C) → Step natives M (state_at c f a fs os) next → next ≡ Moved (state_at c f b fs os)) → s ≡ state_at c f a fs os → Runs natives M Running m s order stop end → (n : ℕ) × (n < m) × Runs natives M Running n (state_at c f b fs os) order stop end
  quiet-first c f fs os order stop end a b m s e is (moves {n = n} {t = t} h r) =
      let same = e (Moved t) (subst (λ u. Step natives M u (Moved t)) is h) in
      (n, omega arith, subst (λ u. Runs natives M Running n u order stop end) (moved-one t (state_at c f b fs os) same) r)
  quiet-first c f fs os order stop end a b m s e is (blocks {t = t} h r) =
      absurd (let same = e (Blocked t) (subst (λ u. Step natives M u (Blocked t)) is h) in let bad : ⊥ = cc in bad)
  quiet-first c f fs os order stop end a b m s e is (ends {t = t} h r) =
      absurd (let same = e (Ended t) (subst (λ u. Step natives M u (Ended t)) is h) in let bad : ⊥ = cc in bad)
  quiet-first c f fs os order stop end a b m s e is (needs_tick h) =
      absurd (let same = e NeedsTick (subst (λ u. Step natives M u NeedsTick) is h) in let bad : ⊥ = cc in bad)
  quiet-first c f fs os order stop end a b m s e is (passes {limit = limit} h) =
      absurd (let same = e (Limit limit) (subst (λ u. Step natives M u (Limit limit)) is h) in let bad : ⊥ = cc in bad)

  module _ (c : Common) (f : Frame C) (fs : List (Frame C)) (os : List (List (Frame C))) (order : List ℕ) (stop : Stop) (end : Common) where
    abbrev pub RunsAt : ℕ → C → Type 0
    RunsAt n a = Runs natives M Running n (state_at c f a fs os) order stop end

    -- quiet steps, and then a run
    pub quiet-then : {a b : C} → Quiet natives M (caller f fs) c a b → (m : ℕ) × RunsAt m b → (m : ℕ) × RunsAt m a
    quiet-then here r = r
    quiet-then (step {a = a} {b = b} e q) r = let k = quiet-then q r in (suc k.0, moves (one-quiet natives M c f fs os a b e) k.1)
    quiet-then (pass {a = a} {k = k} {op = op} {vs = vs} {ws = ws} e h u q) r =
        let more = quiet-then q r in (suc more.0, moves (one-pass natives M c f fs os a k op vs ws e h) more.1)

    pub quiet-past : {a b : C} (m : ℕ) → Quiet natives M (caller f fs) c a b → RunsAt m a → (n : ℕ) × (n ≤ m) × RunsAt n b
    quiet-past m here r = (m, omega arith, r)
    quiet-past m (step {a = a} {b = b} e q) r =
        let first = quiet-first c f fs os order stop end a b m (state_at c f a fs os) (λ next h. same-next c f fs os a b next e h) refl r in
        let past = quiet-past first.0 q first.2 in
        (past.0, omega (arith, first.1, past.1), past.2)
    quiet-past m (pass {a = a} {k = k} {op = op} {vs = vs} {ws = ws} e h u q) r =
        let first = quiet-first c f fs os order stop end a (M.resume k ws) m (state_at c f a fs os) (λ next p. same-pass c f fs os a k op vs ws next e u p) refl r in
        let past = quiet-past first.0 q first.2 in
        (past.0, omega (arith, first.1, past.1), past.2)
