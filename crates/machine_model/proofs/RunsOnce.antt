-- By an order a state has one run at most.
use Rattle.std.proofs.Common.{◌≡◌, ℕ, suc, List, [], ◌∷◌, Some, refl, sym, subst, ap, ◌∙◌}
use Rattle.std.specs.Prelude.{drop, get_or, slice_get}
use Rattle.value_model.specs.Meaning.{Answers}
use Rattle.op_model.specs.Common.{Common}
use Rattle.op_model.specs.Laws.{AnswerOnce}
use Rattle.machine_model.specs.Machine.{Machine, State, Next, Moved, Blocked, Ended, NeedsTick, Limit, Step}
use Rattle.machine_model.specs.Runs.{Phase, Running, Picking, Stop, Over, TicksSpent, PastLimit, Runs, moves, blocks, ends, needs_tick, passes, picks, over, picked}
use Rattle.machine_model.specs.Laws.{RunsOnce}
use Rattle.machine_model.proofs.Once.{some-same, steps-once}

module _ {C : Type 0} (natives : Answers) (M : Machine C) (once : AnswerOnce natives) where
  -- what is left of a run behind a step
  abbrev Continues : Next C → ℕ → State C → List ℕ → Stop → Common → Type 0
  Continues (Moved t) n s order stop c = (k : ℕ) × (n ≡ suc k) × Runs natives M Running k t order stop c
  Continues (Blocked t) n s order stop c = (k : ℕ) × (n ≡ suc k) × Runs natives M Picking k t order stop c
  Continues (Ended t) n s order stop c = (k : ℕ) × (n ≡ suc k) × Runs natives M Picking k t order stop c
  Continues NeedsTick n s order stop c = (n ≡ 0) × (stop ≡ TicksSpent) × (c ≡ s.common)
  Continues (Limit limit) n s order stop c = (n ≡ 0) × (stop ≡ PastLimit limit) × (c ≡ s.common)

  run-next : (next : Next C) {n : ℕ} {s : State C} {order : List ℕ} {stop : Stop} {c : Common} → Step natives M s next → Runs natives M Running n s order stop c → Continues next n s order stop c
  run-next next {s = s} {order = order} {stop = stop} {c = c} h (moves {n = k} {t = t} g r) = subst (λ x. Continues x (suc k) s order stop c) (steps-once natives M once s (Moved t) next g h) (k, refl, r)
  run-next next {s = s} {order = order} {stop = stop} {c = c} h (blocks {n = k} {t = t} g r) = subst (λ x. Continues x (suc k) s order stop c) (steps-once natives M once s (Blocked t) next g h) (k, refl, r)
  run-next next {s = s} {order = order} {stop = stop} {c = c} h (ends {n = k} {t = t} g r) = subst (λ x. Continues x (suc k) s order stop c) (steps-once natives M once s (Ended t) next g h) (k, refl, r)
  run-next next {s = s} h (needs_tick g) = subst (λ x. Continues x 0 s [] TicksSpent s.common) (steps-once natives M once s NeedsTick next g h) (refl, refl, refl)
  run-next next {s = s} h (passes {limit = limit} g) = subst (λ x. Continues x 0 s [] (PastLimit limit) s.common) (steps-once natives M once s (Limit limit) next g h) (refl, refl, refl)

  pick-next : (place k : ℕ) (rest : List ℕ) {n : ℕ} {s : State C} {order : List ℕ} {stop : Stop} {c : Common} → order ≡ place ∷ rest → slice_get s.common.ready place ≡ Some k → Runs natives M Picking n s order stop c → Runs natives M Running n (picked s place k) rest stop c
  pick-next place k rest {stop = stop} {c = c} e h (picks {n = n} {place = p} {k = j} {s = s} {order = o} g r) =
      let at : p ≡ place = ap (λ l. get_or l 0 p) e in
      let found : j ≡ k = some-same j k (sym g ∙ (ap (slice_get s.common.ready) at ∙ h)) in
      subst (λ l. Runs natives M Running n (picked s place k) l stop c) (ap (drop 1) e)
      (subst (λ x. Runs natives M Running n (picked s place x) o stop c) found (subst (λ x. Runs natives M Running n (picked s x j) o stop c) at r))
  pick-next place k rest e h (over g) = absurd (let bad : ⊥ = cc in bad)

  over-next : {n : ℕ} {s : State C} {order : List ℕ} {stop : Stop} {c : Common} → order ≡ [] → Runs natives M Picking n s order stop c → (n ≡ 0) × (stop ≡ Over) × (c ≡ s.common)
  over-next e (over g) = (refl, refl, refl)
  over-next e (picks h r) = absurd (let bad : ⊥ = cc in bad)

  runs-one : {phase : Phase} {n m : ℕ} {s : State C} {order : List ℕ} {stop other : Stop} {c d : Common} → Runs natives M phase n s order stop c → Runs natives M phase m s order other d → (n ≡ m) × (stop ≡ other) × (c ≡ d)
  runs-one (moves {t = t} h r) q = let (k, e, more) = run-next (Moved t) h q in let same = runs-one r more in (ap suc same.0 ∙ sym e, same.1, same.2)
  runs-one (blocks {t = t} h r) q = let (k, e, more) = run-next (Blocked t) h q in let same = runs-one r more in (ap suc same.0 ∙ sym e, same.1, same.2)
  runs-one (ends {t = t} h r) q = let (k, e, more) = run-next (Ended t) h q in let same = runs-one r more in (ap suc same.0 ∙ sym e, same.1, same.2)
  runs-one (needs_tick h) q = let same = run-next NeedsTick h q in (sym same.0, sym same.1, sym same.2)
  runs-one (passes {limit = limit} h) q = let same = run-next (Limit limit) h q in (sym same.0, sym same.1, sym same.2)
  runs-one (picks {place = place} {k = k} {order = order} h r) q = runs-one r (pick-next place k order refl h q)
  runs-one (over h) q = let same = over-next refl q in (sym same.0, sym same.1, sym same.2)

pub runs-once : {C : Type 0} (natives : Answers) (M : Machine C) → RunsOnce natives M
runs-once natives M once phase n m s order stop other c d r q = runs-one natives M once r q
