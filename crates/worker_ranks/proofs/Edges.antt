-- Two vertices show whether the first event follows or needs the second.
use Rattle.std.proofs.Common.{◌≡◌, ◌∙◌, ◌<◌, ◌⊎◌, ◌+◌, ◌==◌, ℕ, zero, suc, Bool, true, List, [], ◌∷◌, Some, None, length, refl, sym, subst, ap, inl, inr, arith}
use Rattle.std.specs.Prelude.{◌&&◌, Contains, IsSomeAnd, nat_lt, slice_get}
use Rattle.std.proofs.lemmas.Bool.{and_from, and_parts, eq-eqb, eqb-true, false≢true, lt-ltb, ltb-true, or_cases, or_left, or_right}
use Rattle.typed_tree.specs.declared.event.EventKind.{EventKind}
use Rattle.typed_tree.specs.declared.event.EventKind.TheVariants.{Send, Post, Done, Receive, Flush, Wait, End}
use Rattle.worker_pairing.specs.Events.{Crew, IsNth, Needs, NeedsAs, before, events_of, receives_from, sends_to}
use Rattle.worker_pairing.proofs.Counts.{nth-length}
use Rattle.worker_ranks.specs.inner.Vertices.{Vertex, is_among, is_close, is_edge, needs_other, place_in, vertex_at}

-- ---- one of several numbers

pub among-there : (us : List ℕ) (u : ℕ) → is_among us u ≡ true → Contains us u
among-there [] u is = absurd (false≢true is)
among-there (n ∷ us) u is = by (or_cases (n == u) (is_among us u) is) (among-there us u)
  where
    later : Contains us u → Contains (n ∷ us) u
    later (k, lt, same) = (suc k, omega (arith, lt), same)

    by : ((n == u) ≡ true) ⊎ (is_among us u ≡ true) → (is_among us u ≡ true → Contains us u) → Contains (n ∷ us) u
    by (inl e) more = (0, omega arith, eqb-true n u e)
    by (inr is) more = later (more is)

pub there-among : (us : List ℕ) (u : ℕ) → Contains us u → is_among us u ≡ true
there-among [] u (k, lt, same) = absurd (omega (arith, lt))
there-among (n ∷ us) u (zero, lt, same) = or_left (n == u) (is_among us u) (eq-eqb n u same)
there-among (n ∷ us) u (suc k, lt, same) = or_right (n == u) (is_among us u) (there-among us u (k, omega (arith, lt), same))

three : (x y z : Bool) → (x && (y && z)) ≡ true → (x ≡ true) × (y ≡ true) × (z ≡ true)
three x y z is =
    let first = and_parts x (y && z) is in
    let more = and_parts y z first.1 in
    (first.0, more.0, more.1)

-- the one right before stands before it
pub close-edge : (a b : Vertex) → is_close a b ≡ true → is_edge a b ≡ true
close-edge a b is = by (or_cases _ _ is)
  where
    by : (((a.worker == b.worker) && (b.number + 1 == a.number)) ≡ true) ⊎ (needs_other a.kind a b ≡ true) → is_edge a b ≡ true
    by (inl step) =
        let parts = and_parts _ _ step in
        let next = eqb-true (b.number + 1) a.number parts.1 in
        or_left _ _ (and_from _ _ parts.0 (lt-ltb b.number a.number (omega (arith, next))))
    by (inr needs) = or_right _ _ needs

module _ (crew : Crew) where
  -- ---- places of messages

  send-place : (w u j : ℕ) (e : EventKind) → sends_to w e ≡ true → place_in crew u j e ≡ before (sends_to w) (events_of crew u) j
  send-place w u j (Send (Some v)) is = ap (λ x. before (sends_to x) (events_of crew u) j) (eqb-true v w is)
  send-place w u j (Post (Some v)) is = ap (λ x. before (sends_to x) (events_of crew u) j) (eqb-true v w is)
  send-place w u j (Send None) is = absurd (false≢true is)
  send-place w u j (Post None) is = absurd (false≢true is)
  send-place w u j (Done peer) is = absurd (false≢true is)
  send-place w u j (Receive peer) is = absurd (false≢true is)
  send-place w u j (Flush peer) is = absurd (false≢true is)
  send-place w u j (Wait ns) is = absurd (false≢true is)
  send-place w u j End is = absurd (false≢true is)

  receive-place : (v u j : ℕ) (e : EventKind) → receives_from v e ≡ true → place_in crew u j e ≡ before (receives_from v) (events_of crew u) j
  receive-place v u j (Receive (Some w)) is = ap (λ x. before (receives_from x) (events_of crew u) j) (eqb-true w v is)
  receive-place v u j (Receive None) is = absurd (false≢true is)
  receive-place v u j (Send peer) is = absurd (false≢true is)
  receive-place v u j (Post peer) is = absurd (false≢true is)
  receive-place v u j (Done peer) is = absurd (false≢true is)
  receive-place v u j (Flush peer) is = absurd (false≢true is)
  receive-place v u j (Wait ns) is = absurd (false≢true is)
  receive-place v u j End is = absurd (false≢true is)

  -- ---- the event that is needed is there

  last-there : (u j : ℕ) → suc j ≡ length (events_of crew u) → j < length (events_of crew u)
  last-there u j e = omega (arith, e)

  nth-there : (is : EventKind → Bool) (u v k j : ℕ) → u ≡ v → IsNth is (events_of crew v) k j → j < length (events_of crew u)
  nth-there is u v k j e nth = subst (λ x. j < length (events_of crew x)) (sym e) (nth-length is (events_of crew v) j nth.0)

  pub needed-there : (e : EventKind) (w i u j : ℕ) → NeedsAs crew e w i u j → j < length (events_of crew u)
  needed-there (Receive (Some v)) w i u j (same, nth) = nth-there (sends_to w) u v _ j same nth
  needed-there (Done (Some v)) w i u j (same, (k, at, nth)) = nth-there (receives_from w) u v k j same nth
  needed-there (Flush (Some v)) w i u j (same, (k, at, nth)) = nth-there (receives_from w) u v k j same nth
  needed-there (Wait us) w i u j (among, last) = last-there u j last
  needed-there (Receive None) w i u j h = absurd h
  needed-there (Done None) w i u j h = absurd h
  needed-there (Flush None) w i u j h = absurd h
  needed-there (Send peer) w i u j h = absurd h
  needed-there (Post peer) w i u j h = absurd h
  needed-there End w i u j h = absurd h

  -- ---- needs

  module _ (w i u j : ℕ) (other : EventKind) (there : slice_get (events_of crew u) j ≡ Some other) where
    abbrev second : Vertex
    second = vertex_at crew u j other

    as-nth : (is : EventKind → Bool) (v k : ℕ) → u ≡ v → is other ≡ true → place_in crew u j other ≡ before is (events_of crew u) j → place_in crew u j other ≡ k → IsNth is (events_of crew v) k j
    as-nth is v k same on place k-is =
        subst (λ x. IsNth is (events_of crew x) k j) same (subst (λ o. IsSomeAnd o (λ e. is e ≡ true)) (sym there) on, sym place ∙ k-is)

    of-nth : (is : EventKind → Bool) (v k : ℕ) → u ≡ v → IsNth is (events_of crew v) k j → (is other ≡ true) × (before is (events_of crew u) j ≡ k)
    of-nth is v k same nth =
        let here : IsNth is (events_of crew u) k j = subst (λ x. IsNth is (events_of crew x) k j) (sym same) nth in
        (subst (λ o. IsSomeAnd o (λ e. is e ≡ true)) there here.0, here.1)

    pub shows-need : (e : EventKind) → needs_other e (vertex_at crew w i e) second ≡ true → NeedsAs crew e w i u j
    shows-need (Receive (Some v)) is =
        let parts = three (u == v) (sends_to w other) (second.place == before (receives_from v) (events_of crew w) i) is in
        let same = eqb-true u v parts.0 in
        (same, as-nth (sends_to w) v (before (receives_from v) (events_of crew w) i) same parts.1 (send-place w u j other parts.1) (eqb-true second.place (before (receives_from v) (events_of crew w) i) parts.2))
    shows-need (Done (Some v)) is =
        let parts = three (u == v) (receives_from w other) (second.place + 1 == before (sends_to v) (events_of crew w) i) is in
        let same = eqb-true u v parts.0 in
        let next : second.place + 1 ≡ before (sends_to v) (events_of crew w) i = eqb-true (second.place + 1) (before (sends_to v) (events_of crew w) i) parts.2 in
        (same, (second.place, omega (arith, next), as-nth (receives_from w) v second.place same parts.1 (receive-place w u j other parts.1) refl))
    shows-need (Flush (Some v)) is =
        let parts = three (u == v) (receives_from w other) (nat_lt second.place (before (sends_to v) (events_of crew w) i)) is in
        let same = eqb-true u v parts.0 in
        (same, (second.place, ltb-true second.place (before (sends_to v) (events_of crew w) i) parts.2, as-nth (receives_from w) v second.place same parts.1 (receive-place w u j other parts.1) refl))
    shows-need (Wait us) is =
        let parts = and_parts (j + 1 == length (events_of crew u)) (is_among us u) is in
        let last : j + 1 ≡ length (events_of crew u) = eqb-true (j + 1) (length (events_of crew u)) parts.0 in
        (among-there us u parts.1, omega (arith, last))
    shows-need (Receive None) is = absurd (false≢true is)
    shows-need (Done None) is = absurd (false≢true is)
    shows-need (Flush None) is = absurd (false≢true is)
    shows-need (Send peer) is = absurd (false≢true is)
    shows-need (Post peer) is = absurd (false≢true is)
    shows-need End is = absurd (false≢true is)

    pub need-shows : (e : EventKind) → NeedsAs crew e w i u j → needs_other e (vertex_at crew w i e) second ≡ true
    need-shows (Receive (Some v)) (same, nth) =
        let is = of-nth (sends_to w) v _ same nth in
        and_from _ _ (eq-eqb u v same) (and_from _ _ is.0 (eq-eqb _ _ (send-place w u j other is.0 ∙ is.1)))
    need-shows (Done (Some v)) (same, (k, at, nth)) =
        let is = of-nth (receives_from w) v k same nth in
        let place = receive-place w u j other is.0 ∙ is.1 in
        and_from _ _ (eq-eqb u v same) (and_from _ _ is.0 (eq-eqb _ _ (omega (arith, place, at))))
    need-shows (Flush (Some v)) (same, (k, at, nth)) =
        let is = of-nth (receives_from w) v k same nth in
        let place = receive-place w u j other is.0 ∙ is.1 in
        and_from _ _ (eq-eqb u v same) (and_from _ _ is.0 (lt-ltb _ _ (omega (arith, place, at))))
    need-shows (Wait us) (among, last) = and_from _ _ (eq-eqb _ _ (omega (arith, last))) (there-among us u among)
    need-shows (Receive None) h = absurd h
    need-shows (Done None) h = absurd h
    need-shows (Flush None) h = absurd h
    need-shows (Send peer) h = absurd h
    need-shows (Post peer) h = absurd h
    need-shows End h = absurd h

    -- ---- edges

    module _ (e : EventKind) (at : slice_get (events_of crew w) i ≡ Some e) where
      pub edge-shows : is_edge (vertex_at crew w i e) second ≡ true → ((w ≡ u) × (j < i)) ⊎ Needs crew w i u j
      edge-shows is = by (or_cases _ _ is)
        where
          by : (((w == u) && nat_lt j i) ≡ true) ⊎ (needs_other e (vertex_at crew w i e) second ≡ true) → ((w ≡ u) × (j < i)) ⊎ Needs crew w i u j
          by (inl behind) = let parts = and_parts _ _ behind in inl (eqb-true w u parts.0, ltb-true j i parts.1)
          by (inr needs) = inr (subst (λ o. IsSomeAnd o (λ k. NeedsAs crew k w i u j)) (sym at) (shows-need e needs))

      pub need-edge : Needs crew w i u j → is_edge (vertex_at crew w i e) second ≡ true
      need-edge h = or_right _ _ (need-shows e (subst (λ o. IsSomeAnd o (λ k. NeedsAs crew k w i u j)) at h))

      pub behind-edge : w ≡ u → j < i → is_edge (vertex_at crew w i e) second ≡ true
      behind-edge same lt = or_left _ _ (and_from _ _ (eq-eqb w u same) (lt-ltb j i lt))

      pub need-close : Needs crew w i u j → is_close (vertex_at crew w i e) second ≡ true
      need-close h = or_right _ _ (need-shows e (subst (λ o. IsSomeAnd o (λ k. NeedsAs crew k w i u j)) at h))

      pub step-close : w ≡ u → j + 1 ≡ i → is_close (vertex_at crew w i e) second ≡ true
      step-close same next = or_left _ _ (and_from _ _ (eq-eqb w u same) (eq-eqb (j + 1) i next))

      pub shows-edge : ((w ≡ u) × (j < i)) ⊎ Needs crew w i u j → is_edge (vertex_at crew w i e) second ≡ true
      shows-edge (inl (same, lt)) = behind-edge same lt
      shows-edge (inr h) = need-edge h
