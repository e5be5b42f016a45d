-- A way that goes on to the nearest follower each time is the first of the shortest.
use Rattle.std.proofs.Common.{◌≡◌, ℕ, zero, suc, ◌+◌, ◌<◌, ◌≤◌, ◌⊎◌, inl, inr, List, [], ◌∷◌, ◌++◌, length, get_or, take, refl, sym, ap, subst, ◌∙◌, arith, Option, None, Some}
use Rattle.std.specs.List.{Contains}
use Rattle.std.proofs.lemmas.Bool.{cases_lt}
use Rattle.graphs.specs.Cycles.{ComesFirst, Follows, IsFirstCycle, IsOnCycle, IsWay, followers}
use Rattle.graphs.specs.Distances.{AreAway, Leads}
use Rattle.graphs.specs.inner.Searching.{IsNearest, IsNearestOf, IsSooner}
use Rattle.graphs.specs.declared.cycles.Near.{Near}
use Rattle.graphs.proofs.Rows.{take-more}
use Rattle.graphs.proofs.Noting.{Away, among-from, among-to, at, none-among, none-some, some-same}

module _ (next : List (List ℕ)) (away : Away) where
  -- from the first number through these to the last, which has this distance
  abbrev pub Greedy : ℕ → List ℕ → ℕ → ℕ → Type 0
  Greedy i [] last d = IsNearest away (followers next i) last d
  Greedy i (j ∷ js) last d = IsNearest away (followers next i) j (suc (length js + d)) × Greedy j js last d

  greedy-more : (i : ℕ) (js : List ℕ) (last more d : ℕ) → Greedy i js last (suc d) → IsNearest away (followers next last) more d → Greedy i (js ++ last ∷ []) more d
  greedy-more i [] last more d g n = (subst (IsNearest away (followers next i) last) (omega arith) g, n)
  greedy-more i (j ∷ js) last more d g n =
      (subst (IsNearest away (followers next i) j) (let l = length-push js last in omega (arith, l)) g.0, greedy-more j js last more d g.1 n)
    where
      length-push : (xs : List ℕ) (x : ℕ) → length (xs ++ x ∷ []) ≡ length xs + 1
      length-push [] x = refl
      length-push (y ∷ ys) x = let e = length-push ys x in omega (arith, e)

  greedy-far : (i : ℕ) (js : List ℕ) (last d : ℕ) → Greedy i js last d → at away last ≡ Some d
  greedy-far i [] last d g = g.far
  greedy-far i (j ∷ js) last d g = greedy-far j js last d g.1

module _ (next : List (List ℕ)) (target : ℕ) (away : Away) (exact : AreAway next target away) where
  way-leads : (i : ℕ) (js : List ℕ) → IsWay next i js target → Leads next target (suc (length js)) i
  way-leads i [] w = (target, w, refl)
  way-leads i (j ∷ js) w = (j, w.0, way-leads j js w.1)

  -- something follows a number that has a distance, and is one step nearer
  pub something_nearer : (i d : ℕ) → at away i ≡ Some (suc d) → IsNearestOf away (followers next i) None → ⊥
  something_nearer i d k none = by (exact.leads i (suc d) k)
    where
      by : (j : ℕ) × Follows next i j × Leads next target d j → ⊥
      by (j, f, l) = let found = exact.least j d l in none j found.0 f found.2

  pub goes_nearer : (i d : ℕ) → at away i ≡ Some (suc d) → (n : Near) → IsNearest away (followers next i) n.number n.steps → IsNearest away (followers next i) n.number d
  goes_nearer i d k n is = subst (IsNearest away (followers next i) n.number) (by (exact.leads i (suc d) k)) is
    where
      least : (e : ℕ) × (e ≤ suc n.steps) × (at away i ≡ Some e) → d ≤ n.steps
      least (e, le, h) = let same = some-same (sym h ∙ k) in omega (arith, le, same)

      most : (j e : ℕ) → e ≤ d → (n.steps < e) ⊎ ((n.steps ≡ e) × (n.number ≤ j)) → n.steps ≤ d
      most j e le (inl lt) = omega (arith, le, lt)
      most j e le (inr (same, h)) = omega (arith, le, same)

      by : (j : ℕ) × Follows next i j × Leads next target d j → n.steps ≡ d
      by (j, f, l) =
          let found = exact.least j d l in
          let small = most j found.0 found.1 (is.first j found.0 f found.2) in
          let large = least (exact.least i (suc n.steps) (n.number, is.among, exact.leads n.number n.steps is.far)) in
          omega (arith, small, large)

  greedy-way : (i : ℕ) (js : List ℕ) → Greedy next away i js target 0 → IsWay next i js target
  greedy-way i [] g = g.among
  greedy-way i (j ∷ js) g = (g.0.among, greedy-way j js g.1)

  nearest_to : (i o d : ℕ) (os : List ℕ) (j : ℕ) → IsNearest away (followers next i) j d → Follows next i o → IsWay next o os target
      → (e : ℕ) × (e ≤ suc (length os)) × ((d < e) ⊎ ((d ≡ e) × (j ≤ o)))
  nearest_to i o d os j near f w = let found = exact.least o (suc (length os)) (way-leads o os w) in (found.0, found.1, near.first o found.0 f found.2)

  greedy-shortest : (i : ℕ) (js : List ℕ) → Greedy next away i js target 0 → (more : List ℕ) → IsWay next i more target → length js ≤ length more
  greedy-shortest i [] g more w = omega arith
  greedy-shortest i (j ∷ js) g [] w = let found = exact.least target 0 refl in absurd (by found.0 found.1 (g.0.first target found.0 w found.2))
    where
      by : (e : ℕ) → e ≤ 0 → (suc (length js + 0) < e) ⊎ ((suc (length js + 0) ≡ e) × (j ≤ target)) → ⊥
      by e le (inl lt) = omega (arith, le, lt)
      by e le (inr (same, h)) = omega (arith, le, same)
  greedy-shortest i (j ∷ js) g (o ∷ os) w = let found = nearest_to i o (suc (length js + 0)) os j g.0 w.0 w.1 in by found.0 found.1 found.2
    where
      by : (e : ℕ) → e ≤ suc (length os) → (suc (length js + 0) < e) ⊎ ((suc (length js + 0) ≡ e) × (j ≤ o)) → length (j ∷ js) ≤ length (o ∷ os)
      by e le (inl lt) = omega (arith, le, lt)
      by e le (inr (same, h)) = omega (arith, le, same)

  greedy-earliest : (i : ℕ) (js : List ℕ) → Greedy next away i js target 0 → (more : List ℕ) → IsWay next i more target → length more ≡ length js → ComesFirst js more
  greedy-earliest i [] g more w same = tt
  greedy-earliest i (j ∷ js) g [] w same = absurd (omega (arith, same))
  greedy-earliest i (j ∷ js) g (o ∷ os) w same =
      let found = nearest_to i o (suc (length js + 0)) os j g.0 w.0 w.1 in
      by found.0 found.1 found.2 (λ e. greedy-earliest j js g.1 os (subst (λ k. IsWay next k os target) (sym e) w.1) (omega (arith, same)))
    where
      either : (j ≤ o) → ((j ≡ o) → ComesFirst js os) → (j < o) ⊎ (o ≤ j) → (j < o) ⊎ ((j ≡ o) × ComesFirst js os)
      either le rest (inl lt) = inl lt
      either le rest (inr ge) = let e : j ≡ o = omega (arith, le, ge) in inr (e, rest e)

      by : (e : ℕ) → e ≤ suc (length os) → (suc (length js + 0) < e) ⊎ ((suc (length js + 0) ≡ e) × (j ≤ o)) → ((j ≡ o) → ComesFirst js os)
          → (j < o) ⊎ ((j ≡ o) × ComesFirst js os)
      by e le (inl lt) rest = absurd (omega (arith, le, lt, same))
      by e le (inr (d, h)) rest = either h rest (cases_lt j o)

-- the cycle that is found
pub greedy-first : (next : List (List ℕ)) (first last : ℕ) (away : Away) (others : List ℕ) → AreAway next first away → Greedy next away first others last 0 → IsFirstCycle next first others
greedy-first next first last away others exact g =
    let home : last ≡ first = exact.leads last 0 (greedy-far next away first others last 0 g) in
    let h = subst (λ t. Greedy next away first others t 0) home g in record {
      cycle = greedy-way next first away exact first others h;
      shortest = greedy-shortest next first away exact first others h;
      earliest = greedy-earliest next first away exact first others h;
    }

-- nothing that follows leads back
pub none-cyclic : (next : List (List ℕ)) (first : ℕ) (away : Away) → AreAway next first away → IsNearestOf away (followers next first) None → IsOnCycle next first → ⊥
none-cyclic next first away exact none ([], w) = let found = exact.least first 0 refl in none first found.0 w found.2
none-cyclic next first away exact none (j ∷ js, w) = let found = exact.least j (suc (length js)) (way-leads next first away exact j js w.1) in none j found.0 w.0 found.2

-- one more among which the nearest is sought
pub nearest-skips : (away : Away) (xs : List ℕ) (x : ℕ) (near : Option Near) → at away x ≡ None → IsNearestOf away xs near → IsNearestOf away (xs ++ x ∷ []) near
nearest-skips away xs x None k none = λ i d m far. by i d far (among-from xs x i m)
  where
    by : (i d : ℕ) → at away i ≡ Some d → Contains xs i ⊎ (i ≡ x) → ⊥
    by i d far (inl m) = none i d m far
    by i d far (inr e) = none-some (sym k ∙ ap (at away) (sym e) ∙ far)
nearest-skips away xs x (Some n) k is = record {
  among = among-to xs x n.number (inl is.among);
  far = is.far;
  first = λ i d m far. by i d far (among-from xs x i m);
}
  where
    by : (i d : ℕ) → at away i ≡ Some d → Contains xs i ⊎ (i ≡ x) → (n.steps < d) ⊎ ((n.steps ≡ d) × (n.number ≤ i))
    by i d far (inl m) = is.first i d m far
    by i d far (inr e) = absurd (none-some (sym k ∙ ap (at away) (sym e) ∙ far))

pub nearest-begins : (away : Away) (xs : List ℕ) (x d : ℕ) → at away x ≡ Some d → IsNearestOf away xs None → IsNearest away (xs ++ x ∷ []) x d
nearest-begins away xs x d k none = record {
  among = among-to xs x x (inr refl);
  far = k;
  first = λ i e m far. by i e far (among-from xs x i m);
}
  where
    by : (i e : ℕ) → at away i ≡ Some e → Contains xs i ⊎ (i ≡ x) → (d < e) ⊎ ((d ≡ e) × (x ≤ i))
    by i e far (inl m) = absurd (none i e m far)
    by i e far (inr same) = inr (some-same (sym k ∙ ap (at away) (sym same) ∙ far), omega (arith, same))

-- the new one comes before the old one
pub nearest-changes : (away : Away) (xs : List ℕ) (x d n s : ℕ) → at away x ≡ Some d → (d < s) ⊎ ((d ≡ s) × (x ≤ n)) → IsNearest away xs n s → IsNearest away (xs ++ x ∷ []) x d
nearest-changes away xs x d n s k before is = record {
  among = among-to xs x x (inr refl);
  far = k;
  first = λ i e m far. by i e far (among-from xs x i m);
}
  where
    joined : (i e : ℕ) → (d < s) ⊎ ((d ≡ s) × (x ≤ n)) → (s < e) ⊎ ((s ≡ e) × (n ≤ i)) → (d < e) ⊎ ((d ≡ e) × (x ≤ i))
    joined i e (inl a) (inl b) = inl (omega (arith, a, b))
    joined i e (inl a) (inr (b, c)) = inl (omega (arith, a, b))
    joined i e (inr (a, c)) (inl b) = inl (omega (arith, a, b))
    joined i e (inr (a, c)) (inr (b, f)) = inr (omega (arith, a, b), omega (arith, c, f))

    by : (i e : ℕ) → at away i ≡ Some e → Contains xs i ⊎ (i ≡ x) → (d < e) ⊎ ((d ≡ e) × (x ≤ i))
    by i e far (inl m) = joined i e before (is.first i e m far)
    by i e far (inr same) = inr (some-same (sym k ∙ ap (at away) (sym same) ∙ far), omega (arith, same))

pub nearest-stays : (away : Away) (xs : List ℕ) (x d n s : ℕ) → at away x ≡ Some d → (s < d) ⊎ ((s ≡ d) × (n ≤ x)) → IsNearest away xs n s → IsNearest away (xs ++ x ∷ []) n s
nearest-stays away xs x d n s k before is = record {
  among = among-to xs x n (inl is.among);
  far = is.far;
  first = λ i e m far. by i e far (among-from xs x i m);
}
  where
    at_new : (i e : ℕ) → i ≡ x → d ≡ e → (s < d) ⊎ ((s ≡ d) × (n ≤ x)) → (s < e) ⊎ ((s ≡ e) × (n ≤ i))
    at_new i e same far (inl lt) = inl (omega (arith, far, lt))
    at_new i e same far (inr (h, le)) = inr (omega (arith, far, h), omega (arith, same, le))

    by : (i e : ℕ) → at away i ≡ Some e → Contains xs i ⊎ (i ≡ x) → (s < e) ⊎ ((s ≡ e) × (n ≤ i))
    by i e far (inl m) = is.first i e m far
    by i e far (inr same) = at_new i e same (some-same (sym k ∙ ap (at away) (sym same) ∙ far)) before

pub nearest-joined : (away : Away) (xs : List ℕ) (old new r : Near) → at away new.number ≡ Some new.steps → IsSooner old new r → IsNearest away xs old.number old.steps
    → IsNearest away (xs ++ new.number ∷ []) r.number r.steps
nearest-joined away xs old new r k (inl (e, before)) is =
    subst (λ n. IsNearest away (xs ++ new.number ∷ []) n.number n.steps) (sym e) (nearest-changes away xs new.number new.steps old.number old.steps k before is)
nearest-joined away xs old new r k (inr (e, before)) is =
    subst (λ n. IsNearest away (xs ++ new.number ∷ []) n.number n.steps) (sym e) (nearest-stays away xs new.number new.steps old.number old.steps k before is)

pub nearest-more : (away : Away) (ys : List ℕ) (i x : ℕ) (old new : Option Near) → i < length ys → x ≡ get_or ys i x → IsNearestOf away (take i ys) old
    → (IsNearestOf away (take i ys) old → IsNearestOf away (take i ys ++ x ∷ []) new) → IsNearestOf away (take (i + 1) ys) new
nearest-more away ys i x old new lt is before step = subst (λ zs. IsNearestOf away zs new) (sym (take-more ys i x lt is)) (step before)

pub none-nearest : (away : Away) → IsNearestOf away [] None
none-nearest away i d m k = none-among i m

-- a step of the loop that goes on to the nearest
pub onward : (next : List (List ℕ)) (first : ℕ) (away : Away) (others : List ℕ) (number d : ℕ) (near : Near) → AreAway next first away → Greedy next away first others number (suc d)
    → IsNearest away (followers next number) near.number near.steps → Greedy next away first (others ++ number ∷ []) near.number d
onward next first away others number d near exact g is =
    greedy-more next away first others number near.number d g (goes_nearer next first away exact number d (greedy-far next away first others number (suc d) g) near is)

pub no-end : (next : List (List ℕ)) (first : ℕ) (away : Away) (others : List ℕ) (number d : ℕ) → AreAway next first away → Greedy next away first others number (suc d)
    → IsNearestOf away (followers next number) None → ⊥
no-end next first away others number d exact g none = something_nearer next first away exact number d (greedy-far next away first others number (suc d) g) none

pub nearest-as : (a b : Away) (f g : List ℕ) (near : Option Near) → a ≡ b → f ≡ g → IsNearestOf a f near → IsNearestOf b g near
nearest-as a b f g near p q is = subst (λ xs. IsNearestOf b xs near) q (subst (λ xs. IsNearestOf xs f near) p is)

pub still-more : (m n : ℕ) → m < n → (d : ℕ) × (suc d + m ≡ n)
still-more zero (suc n) lt = (n, omega arith)
still-more zero zero lt = absurd (omega (arith, lt))
still-more (suc m) zero lt = absurd (omega (arith, lt))
still-more (suc m) (suc n) lt = let r = still-more m n (omega (arith, lt)) in (r.0, let e = r.1 in omega (arith, e))

-- what nothing follows is on no cycle
pub ends-here : (next : List (List ℕ)) (first : ℕ) (list : List ℕ) → list ≡ followers next first → length list ≡ 0 → IsOnCycle next first → ⊥
ends-here next first list is none cycle = by cycle
  where
    empty : (j : ℕ) → Follows next first j → ⊥
    empty j f = by (subst (λ l. Contains l j) (sym is) f)
      where
        by : Contains list j → ⊥
        by (k, lt, e) = omega (arith, lt, none)

    by : IsOnCycle next first → ⊥
    by ([], w) = empty first w
    by (j ∷ js, w) = empty j w.0
