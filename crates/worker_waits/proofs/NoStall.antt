-- Of the activations in which strands have stopped take the last one: its unfinished workers have all stopped in it.
use Rattle.std.proofs.Common.{◌≡◌, ◌<◌, ◌≤◌, ◌⊎◌, ℕ, zero, suc, ◌+◌, List, [], ◌∷◌, Option, Some, None, length, refl, sym, subst, ap, inl, inr, arith, true}
use Rattle.std.proofs.lemmas.Bool.{cases_lt}
use Rattle.std.proofs.lemmas.Option.{none-some}
use Rattle.std.specs.Prelude.{All, Any, Contains, slice_get}
use Rattle.op_model.specs.Common.{Common, End}
use Rattle.op_model.specs.Strands.{activation_at, has_ended}
use Rattle.machine_model.specs.Machine.{Machine, State}
use Rattle.worker_waits.specs.Standing.{AreStuck, IsLastOf}
use Rattle.machine_model.specs.Strands.{IsUnfinished}
use Rattle.worker_waits.specs.Waiting.{HasNoRing, Waits}

-- ---- the unfinished ones of the first workers

abbrev if_none : ℕ → List ℕ → Option (Option End) → List ℕ
if_none w ws (Some None) = w ∷ ws
if_none w ws (Some (Some end)) = ws
if_none w ws None = ws

abbrev end_at : Common → ℕ → ℕ → Option (Option End)
end_at c a w = slice_get (activation_at c a).ends w

abbrev unfinished : Common → ℕ → ℕ → List ℕ
unfinished c a zero = []
unfinished c a (suc k) = if_none k (unfinished c a k) (end_at c a k)

within-length : {A : Type 0} (xs : List A) (k : ℕ) (x : A) → slice_get xs k ≡ Some x → k < length xs
within-length [] zero x e = absurd (none-some x e)
within-length [] (suc k) x e = absurd (none-some x e)
within-length (y ∷ ys) zero x e = omega arith
within-length (y ∷ ys) (suc k) x e = let h = within-length ys k x e in omega (arith, h)

more : (w : ℕ) (ws : List ℕ) (v : ℕ) → Contains ws v → Contains (w ∷ ws) v
more w ws v (k, lt, same) = (suc k, omega (arith, lt), same)

keeps : (w : ℕ) (ws : List ℕ) (o : Option (Option End)) (v : ℕ) → Contains ws v → Contains (if_none w ws o) v
keeps w ws (Some None) v h = more w ws v h
keeps w ws (Some (Some end)) v h = h
keeps w ws None v h = h

among-them : (c : Common) (a k v : ℕ) → v < k → IsUnfinished c a v → Contains (unfinished c a k) v
among-them c a zero v lt u = absurd (omega (arith, lt))
among-them c a (suc k) v lt u = by (cases_lt v k) (λ h. among-them c a k v h u)
  where
    here : (o : Option (Option End)) → o ≡ Some None → Contains (if_none k (unfinished c a k) o) k
    here o e = subst (λ x. Contains (if_none k (unfinished c a k) x) k) (sym e) (0, omega arith, refl)

    by : (v < k) ⊎ (k ≤ v) → ((v < k) → Contains (unfinished c a k) v) → Contains (if_none k (unfinished c a k) (end_at c a k)) v
    by (inl h) rest = keeps k (unfinished c a k) (end_at c a k) v (rest h)
    by (inr h) rest = let e : k ≡ v = omega (arith, lt, h) in subst (λ x. Contains (if_none k (unfinished c a k) (end_at c a k)) x) e (here (end_at c a k) (subst (λ x. end_at c a x ≡ Some None) (sym e) u))

all-more : (Q : ℕ → Type 0) (w : ℕ) (ws : List ℕ) → Q w → All Q ws → All Q (w ∷ ws)
all-more Q w ws h rest zero d lt = h
all-more Q w ws h rest (suc k) d lt = rest k d (omega (arith, lt))

all-of-them : (c : Common) (a k : ℕ) (Q : ℕ → Type 0) → ((v : ℕ) → v < k → IsUnfinished c a v → Q v) → All Q (unfinished c a k)
all-of-them c a zero Q q = λ k d lt. absurd (omega (arith, lt))
all-of-them c a (suc k) Q q = by (end_at c a k) refl (all-of-them c a k Q (λ v lt u. q v (omega (arith, lt)) u))
  where
    by : (o : Option (Option End)) → end_at c a k ≡ o → All Q (unfinished c a k) → All Q (if_none k (unfinished c a k) o)
    by (Some None) e rest = all-more Q k (unfinished c a k) (q k (omega arith) e) rest
    by (Some (Some end)) e rest = rest
    by None e rest = rest

module _ {C : Type 0} (M : Machine C) (s : State C) (stuck : AreStuck M s) (free : (a : ℕ) → HasNoRing M s a) where
  abbrev None-at : ℕ → Type 0
  None-at a = (n w : ℕ) → IsLastOf s stuck.count n a w → ⊥

  -- no strand has stopped in an activation, where none has in a later one
  none-here : (a : ℕ) → ((b : ℕ) → a < b → None-at b) → None-at a
  none-here a none n w last = empty (free a us waiting) (among-them s.common a workers w (there w last.unfinished) last.unfinished)
    where
      workers : ℕ
      workers = length (activation_at s.common a).ends

      there : (v : ℕ) → IsUnfinished s.common a v → v < workers
      there v u = within-length (activation_at s.common a).ends v None u

      us : List ℕ
      us = unfinished s.common a workers

      each : (v : ℕ) → v < workers → IsUnfinished s.common a v → IsUnfinished s.common a v × Any (λ u. Waits M s a v u) us
      each v lt u = (u, by (stuck.later a v u))
        where
          of : (n : ℕ) → IsLastOf s stuck.count n a v → Any (λ u. Waits M s a v u) us
          of n l =
              let next = stuck.waits n a v l in
              let found = among-them s.common a workers next.0 (there next.0 next.1.unfinished) next.1.unfinished in
              (found.0, next.0, found.1, found.2, next.1)

          by : (n b x : ℕ) × IsLastOf s stuck.count n b x × ((a < b) ⊎ ((b ≡ a) × (x ≡ v))) → Any (λ u. Waits M s a v u) us
          by (n, b, x, l, inl lt) = absurd (none b lt n x l)
          by (n, b, x, l, inr (here, same)) = of n (subst (λ y. IsLastOf s stuck.count n a y) same (subst (λ y. IsLastOf s stuck.count n y x) here l))

      waiting : All (λ v. IsUnfinished s.common a v × Any (λ u. Waits M s a v u) us) us
      waiting = all-of-them s.common a workers (λ v. IsUnfinished s.common a v × Any (λ u. Waits M s a v u) us) each

      empty : us ≡ [] → Contains us w → ⊥
      empty e (k, lt, same) = let l = ap length e in omega (arith, lt, l)

  none-from : (m a : ℕ) → stuck.count ≤ a + m → None-at a
  none-from zero a le = λ n w last. let lt = last.activation in omega (arith, le, lt)
  none-from (suc m) a le = none-here a (λ b lt. none-from m b (omega (arith, le, lt)))

pub ends-all : {C : Type 0} (M : Machine C) (s : State C) → AreStuck M s → ((a : ℕ) → HasNoRing M s a) → (n : ℕ) → n < length s.common.strands → has_ended s.common n ≡ true
ends-all M s stuck free n lt = by (stuck.last n lt)
  where
    by : (has_ended s.common n ≡ true) ⊎ ((a w : ℕ) × IsLastOf s stuck.count n a w) → has_ended s.common n ≡ true
    by (inl h) = h
    by (inr (a, w, last)) = absurd (none-from M s stuck free stuck.count a (omega arith) n w last)
