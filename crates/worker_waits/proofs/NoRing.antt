-- Among unfinished workers that each wait for another of them the event of one would need an earlier one, and so on without end.
use Rattle.std.proofs.Common.{◌≡◌, ◌<◌, ◌≤◌, ◌⊎◌, ℕ, zero, suc, List, [], ◌∷◌, Option, Some, None, length, refl, sym, subst, ap, inl, inr, arith, true}
use Rattle.std.specs.Prelude.{◌==◌, Any, Contains, IsSomeAnd, slice_get}
use Rattle.typed_tree.specs.declared.event.EventKind.{EventKind}
use Rattle.typed_tree.specs.declared.event.EventKind.TheVariants.{Send, Post, Done, Receive, Flush, Wait, End}
use Rattle.op_model.specs.Strands.{channel_at}
use Rattle.machine_model.specs.Machine.{Machine, State}
use Rattle.worker_pairing.specs.Events.{ArePaired, Crew, IsNumbering, Needs, NeedsAs, before, events_of, receives_from, sends_to}
use Rattle.worker_waits.specs.Standing.{AreAt, IsUnmet, said}
use Rattle.machine_model.specs.Strands.{IsUnfinished}
use Rattle.worker_waits.specs.Waiting.{HasNoRing, Waits, awaited_workers}
use Rattle.std.proofs.lemmas.Bool.{cases_lt, eq-eqb}
use Rattle.std.proofs.lemmas.List.Elements.{All-contains}
use Rattle.worker_pairing.proofs.Counts.{at-most-all, before-all, not-before, nth-length, nth-there}

same-number : (n : ℕ) → (n == n) ≡ true
same-number n = eq-eqb n n refl

only : (v u : ℕ) → Contains (v ∷ []) u → u ≡ v
only v u (zero, lt, same) = sym same
only v u (suc k, lt, same) = absurd (omega (arith, lt))

none : {A : Type 0} (u : ℕ) → Contains [] u → A
none u (k, lt, same) = absurd (omega (arith, lt))

-- ---- one step of the descent

module _ {C : Type 0} (M : Machine C) (s : State C) (a : ℕ) (crew : Crew) (made : ℕ → ℕ)
    (paired : ArePaired crew) (at : AreAt M s a crew made) where
  abbrev events : ℕ → List EventKind
  events w = events_of crew w

  -- the next event of w needs one of u that isn't made yet
  abbrev IsBehind : EventKind → (w u : ℕ) → Type 0
  IsBehind e w u = (j : ℕ) × NeedsAs crew e w (made w) u j × (made u ≤ j) × (j < length (events u))

  receive-behind : (w v : ℕ) → IsUnfinished s.common a v → IsUnfinished s.common a w
      → slice_get (events w) (made w) ≡ Some (Receive (Some v)) → (channel_at s.common a v w).queue ≡ [] → IsBehind (Receive (Some v)) w v
  receive-behind w v live own next empty =
      let k : ℕ = before (receives_from v) (events w) (made w) in
      let here = subst (λ o. IsSomeAnd o (λ e. receives_from v e ≡ true)) (sym next) (same-number v) in
      let less = before-all (receives_from v) (events w) (made w) here in
      let even = paired v w in
      let found = nth-there (sends_to w) (events v) k (omega (arith, less, even)) in
      let sends = at.sent v w live in
      let gets = at.received v w own in
      let waits = at.queue v w in
      let long = ap length empty in
      let few : before (sends_to w) (events v) (made v) ≤ k = omega (arith, sends, gets, waits, long)
      in (found.0, (refl, found.1), not-before (sends_to w) (events v) k found.0 (made v) found.1 few, nth-length (sends_to w) (events v) found.0 found.1.0)

  -- the k-th message of w to v isn't received yet
  unreceived : (w v k : ℕ) → IsUnfinished s.common a v → k < before (sends_to v) (events w) (made w)
      → (channel_at s.common a w v).received ≤ k → (j : ℕ) × ((j < length (events v)) × (made v ≤ j) × (IsSomeAnd (slice_get (events v) j) (λ e. receives_from w e ≡ true) × (before (receives_from w) (events v) j ≡ k)))
  unreceived w v k live less few =
      let even = paired w v in
      let most = at-most-all (sends_to v) (events w) (made w) in
      let found = nth-there (receives_from w) (events v) k (omega (arith, less, even, most)) in
      let gets = at.received w v live
      in (found.0, (nth-length (receives_from w) (events v) found.0 found.1.0, not-before (receives_from w) (events v) k found.0 (made v) found.1 (omega (arith, few, gets)), found.1))

  flush-behind : (w v : ℕ) → IsUnfinished s.common a v → IsUnfinished s.common a w
      → (channel_at s.common a w v).received < (channel_at s.common a w v).sent → IsBehind (Flush (Some v)) w v
  flush-behind w v live own less =
      let k : ℕ = (channel_at s.common a w v).received in
      let sends = at.sent w v own in
      let lt : k < before (sends_to v) (events w) (made w) = omega (arith, less, sends) in
      let found = unreceived w v k live lt (omega arith)
      in (found.0, (refl, (k, lt, found.1.2)), found.1.1, found.1.0)

  done-behind : (w v : ℕ) → IsUnfinished s.common a v → IsUnfinished s.common a w
      → (channel_at s.common a w v).received < (channel_at s.common a w v).sent → IsBehind (Done (Some v)) w v
  done-behind w v live own less = by (before (sends_to v) (events w) (made w)) refl
    where
      by : (n : ℕ) → before (sends_to v) (events w) (made w) ≡ n → IsBehind (Done (Some v)) w v
      by zero e = let sends = at.sent w v own in absurd (omega (arith, sends, e, less))
      by (suc k) e =
          let sends = at.sent w v own in
          let found = unreceived w v k live (omega (arith, e)) (omega (arith, less, sends, e))
          in (found.0, (refl, (k, sym e, found.1.2)), found.1.1, found.1.0)

  wait-behind : (us : List ℕ) (w u : ℕ) → IsUnfinished s.common a u → Contains us u → IsBehind (Wait us) w u
  wait-behind us w u live among = by (length (events u)) refl
    where
      by : (n : ℕ) → length (events u) ≡ n → IsBehind (Wait us) w u
      by zero e = let l = at.left u live in absurd (omega (arith, l, e))
      by (suc j) e = let l = at.left u live in (j, (among, sym e), omega (arith, l, e), omega (arith, e))

  event-behind : (e : EventKind) (w u : ℕ) → IsUnfinished s.common a u → IsUnfinished s.common a w → slice_get (events w) (made w) ≡ Some e
      → IsUnmet s.common a w (said e) → Contains (awaited_workers (said e)) u → IsBehind e w u
  event-behind (Receive (Some v)) w u live own next unmet among =
      let same = only v u among in
      subst (λ x. IsBehind (Receive (Some v)) w x) (sym same) (receive-behind w v (subst (λ x. IsUnfinished s.common a x) same live) own next unmet)
  event-behind (Flush (Some v)) w u live own next unmet among =
      let same = only v u among in
      subst (λ x. IsBehind (Flush (Some v)) w x) (sym same) (flush-behind w v (subst (λ x. IsUnfinished s.common a x) same live) own unmet)
  event-behind (Done (Some v)) w u live own next unmet among =
      let same = only v u among in
      subst (λ x. IsBehind (Done (Some v)) w x) (sym same) (done-behind w v (subst (λ x. IsUnfinished s.common a x) same live) own unmet)
  event-behind (Wait us) w u live own next unmet among = wait-behind us w u live among
  event-behind (Receive None) w u live own next unmet among = none u among
  event-behind (Flush None) w u live own next unmet among = none u among
  event-behind (Done None) w u live own next unmet among = none u among
  event-behind (Send (Some v)) w u live own next unmet among = none u among
  event-behind (Send None) w u live own next unmet among = none u among
  event-behind (Post (Some v)) w u live own next unmet among = none u among
  event-behind (Post None) w u live own next unmet among = none u among
  event-behind End w u live own next unmet among = none u among

  -- and so the one who is waited for is to make an event of a lesser number
  waits-behind : (rank : ℕ → ℕ → ℕ) → IsNumbering crew rank → (w u : ℕ) → IsUnfinished s.common a w → Waits M s a w u → rank u (made u) < rank w (made w)
  waits-behind rank n w u own waits =
      let stops = at.stops w waits.strand u waits.talk waits.stops own waits.awaits in by (slice_get (events w) (made w)) refl stops.0 stops.1
    where
      rises : (j : ℕ) → made u ≤ j → j < length (events u) → rank u j < rank w (made w) → rank u (made u) < rank w (made w)
      rises j le lt less = at-or-behind (cases_lt (made u) j)
        where
          at-or-behind : (made u < j) ⊎ (j ≤ made u) → rank u (made u) < rank w (made w)
          at-or-behind (inl h) = let r = n.rises u (made u) j h lt in omega (arith, r, less)
          at-or-behind (inr h) = let e : j ≡ made u = omega (arith, le, h) in subst (λ x. rank u x < rank w (made w)) e less

      by : (o : Option EventKind) → slice_get (events w) (made w) ≡ o → IsSomeAnd o (λ e. said e ≡ waits.talk) → IsUnmet s.common a w waits.talk → rank u (made u) < rank w (made w)
      by None next same unmet = absurd same
      by (Some e) next same unmet =
          let b = event-behind e w u waits.unfinished own next (subst (λ t. IsUnmet s.common a w t) (sym same) unmet) (subst (λ t. Contains (awaited_workers t) u) (sym same) waits.awaits) in
          let needs : Needs crew w (made w) u b.0 = subst (λ o. IsSomeAnd o (λ x. NeedsAs crew x w (made w) u b.0)) (sym next) b.1
          in rises b.0 b.2 b.3 (n.follows w (made w) u b.0 needs)

-- ---- the descent

among : {P : ℕ → Type 0} (us : List ℕ) → Any P us → (u : ℕ) × Contains us u × P u
among us (k, u, lt, same, h) = (u, (k, lt, same), h)

pub no-ring : {C : Type 0} (M : Machine C) (s : State C) (a : ℕ) (crew : Crew) (made : ℕ → ℕ) (rank : ℕ → ℕ → ℕ)
    → ArePaired crew → IsNumbering crew rank → AreAt M s a crew made → HasNoRing M s a
no-ring M s a crew made rank paired n at [] all = refl
no-ring M s a crew made rank paired n at (w ∷ ws) all = absurd (descends (suc (rank w (made w))) w (0, omega arith, refl) (omega arith))
  where
    descends : (most v : ℕ) → Contains (w ∷ ws) v → rank v (made v) < most → ⊥
    descends zero v isin less = omega (arith, less)
    descends (suc most) v isin less =
        let facts = All-contains (λ x. IsUnfinished s.common a x × Any (λ u. Waits M s a x u) (w ∷ ws)) (w ∷ ws) v all isin in
        let next = among (w ∷ ws) facts.1 in
        let lower = waits-behind M s a crew made paired at rank n v next.0 facts.0 next.2
        in descends most next.0 next.1 (omega (arith, lower, less))
