-- From one level of distances to the next.
use Rattle.std.proofs.Common.{◌≡◌, ℕ, zero, suc, ◌+◌, ◌<◌, ◌≤◌, ◌⊎◌, inl, inr, List, [], ◌∷◌, length, set, map, replicate, sym, ap, subst, ◌∙◌, arith, None, Some}
use Rattle.std.specs.List.{Contains}
use Rattle.std.proofs.lemmas.Bool.{cases_lt}
use Rattle.std.proofs.lemmas.List.{length-map, length-set, length-replicate, get_or_past}
use Rattle.graphs.specs.Cycles.{Follows}
use Rattle.graphs.specs.Distances.{AreAway, IsReversed, Leads}
use Rattle.graphs.specs.inner.Searching.{AreNoted, IsBefore, IsLevel, unknown}
use Rattle.graphs.proofs.Noting.{Away, at, has_place, none-among, first-at, first-set, first-unknown}

-- what is followed by something is one of the numbers
pub follows-place : (next : List (List ℕ)) (i j : ℕ) → Follows next i j → i < length next
follows-place next i j f = by (cases_lt i (length next))
  where
    by : (i < length next) ⊎ (length next ≤ i) → i < length next
    by (inl lt) = lt
    by (inr le) = absurd (none-among j (subst (λ xs. Contains xs j) (get_or_past next i [] le) f))

module _ (next : List (List ℕ)) (target level : ℕ) (away : Away) (edge : List ℕ) (is : IsLevel next target level away edge) where
  -- a number from which one step leads to a known one that isn't at the edge is known
  inner : (i j d : ℕ) → d < level → at away j ≡ Some d → Follows next i j → (e : ℕ) × (e ≤ suc d) × (at away i ≡ Some e)
  inner i j d lt k f = is.least i (suc d) lt (j, f, (is.leads j d k).0)

  pub all-away : length edge ≡ 0 → AreAway next target away
  all-away none = record { leads = λ i d k. (is.leads i d k).0; least = least }
    where
      none_at : (j : ℕ) → Contains edge j → ⊥
      none_at j (k, lt, e) = omega (arith, lt, none)

      further : (i j s d : ℕ) → d ≤ s → at away j ≡ Some d → Follows next i j → (d < level) ⊎ (level ≤ d) → (e : ℕ) × (e ≤ suc s) × (at away i ≡ Some e)
      further i j s d le k f (inl lt) = let found = inner i j d lt k f in (found.0, omega (arith, le, found.1), found.2)
      further i j s d le k f (inr ge) =
          let same : d ≡ level = let most = (is.leads j d k).1 in omega (arith, ge, most) in
          absurd (none_at j (is.all j (subst (λ l. at away j ≡ Some l) same k)))

      least : (i steps : ℕ) → Leads next target steps i → (d : ℕ) × (d ≤ steps) × (at away i ≡ Some d)
      least i zero l = is.least i zero (omega arith) l
      least i (suc s) (j, f, l) = let found = least j s l in further i j s found.0 found.1 found.2 f (cases_lt found.0 level)

  module _ (back : List (List ℕ)) (away2 : Away) (found : List ℕ) (reversed : IsReversed next back) (some : 0 < length edge) (noted : AreNoted (IsBefore back edge) (level + 1) away [] away2 found) where
    leads2 : (i d : ℕ) → at away2 i ≡ Some d → Leads next target d i × (d ≤ level + 1)
    leads2 i d k = by (noted.only i d k)
      where
        by : (at away i ≡ Some d) ⊎ ((d ≡ level + 1) × IsBefore back edge i × Contains found i) → Leads next target d i × (d ≤ level + 1)
        by (inl k) = let old = is.leads i d k in (old.0, let most = old.1 in omega (arith, most))
        by (inr (e, (j, on, before), m)) =
            let one : suc level ≡ d = omega (arith, e) in
            (subst (λ n. Leads next target n i) one (j, reversed.follows i j before, (is.leads j level (is.only j on)).0), omega (arith, e))

    least2 : (i steps : ℕ) → steps ≤ level + 1 → Leads next target steps i → (d : ℕ) × (d ≤ steps) × (at away2 i ≡ Some d)
    least2 i zero le l = let old = is.least i zero (omega arith) l in (old.0, old.1, noted.keeps i old.0 old.2)
    least2 i (suc s) le (j, f, l) = let old = is.least j s (omega (arith, le)) l in by old.0 old.1 old.2 (cases_lt old.0 level)
      where
        at_edge : (d : ℕ) → d ≡ level → at away j ≡ Some d → (e : ℕ) × (at away2 i ≡ Some e)
        at_edge d same k =
            let on : Contains edge j = is.all j (subst (λ n. at away j ≡ Some n) same k) in
            let small : j < length next = subst (λ n. j < n) is.long (has_place away j d k) in
            noted.all i (subst (λ n. i < n) (sym is.long) (follows-place next i j f)) (j, on, reversed.known i j small f)

        by : (d : ℕ) → d ≤ s → at away j ≡ Some d → (d < level) ⊎ (level ≤ d) → (e : ℕ) × (e ≤ suc s) × (at away2 i ≡ Some e)
        by d small k (inl lt) = let old = inner i j d lt k f in (old.0, let o = old.1 in omega (arith, o, small), noted.keeps i old.0 old.2)
        by d small k (inr ge) =
            let same : d ≡ level = let most = (is.leads j d k).1 in omega (arith, ge, most) in
            let new = at_edge d same k in
            (new.0, let most = (leads2 i new.0 new.1).1 in omega (arith, most, same, small), new.1)

    pub next-level : IsLevel next target (level + 1) away2 found
    next-level = record { long = noted.long ∙ is.long; leads = leads2; least = least2; all = all2; only = only2; left = left2 }
      where
        all2 : (i : ℕ) → at away2 i ≡ Some (level + 1) → Contains found i
        all2 i k = by (noted.only i (level + 1) k)
          where
            by : (at away i ≡ Some (level + 1)) ⊎ ((level + 1 ≡ level + 1) × IsBefore back edge i × Contains found i) → Contains found i
            by (inl k) = absurd (let most = (is.leads i (level + 1) k).1 in omega (arith, most))
            by (inr (e, b, m)) = m

        only2 : (i : ℕ) → Contains found i → at away2 i ≡ Some (level + 1)
        only2 i m = by (noted.known i m)
          where
            by : Contains [] i ⊎ (at away2 i ≡ Some (level + 1)) → at away2 i ≡ Some (level + 1)
            by (inl m) = absurd (none-among i m)
            by (inr k) = k

        left2 : 0 < length found → level + 1 + unknown away2 < length next
        left2 more = let old = is.left some in let c = noted.counted in omega (arith, old, c, more)

-- the target alone
pub first-level : (next : List (List ℕ)) (n target : ℕ) → n ≡ length next → target < n → IsLevel next target 0 (set (replicate n None) target (Some 0)) (target ∷ [])
first-level next n target long lt = record {
  long = length-set (replicate n None) target (Some 0) ∙ length-replicate n None ∙ long;
  leads = λ i d k. let h = first-set n target i d lt k in (subst (λ m. Leads next target m i) (sym h.1) h.0, let z = h.1 in omega (arith, z));
  least = λ i steps le l. least i steps le l;
  all = λ i k. (0, omega arith, sym (first-set n target i 0 lt k).0);
  only = only;
  left = λ m. let e = first-unknown n target lt in omega (arith, e, long);
}
  where
    only : (i : ℕ) → Contains (target ∷ []) i → at (set (replicate n None) target (Some 0)) i ≡ Some 0
    only i (zero, l, e) = ap (at (set (replicate n None) target (Some 0))) (sym e) ∙ first-at n target lt
    only i (suc k, l, e) = absurd (omega (arith, l))

    least : (i steps : ℕ) → steps ≤ 0 → Leads next target steps i → (d : ℕ) × (d ≤ steps) × (at (set (replicate n None) target (Some 0)) i ≡ Some d)
    least i zero le l = (0, omega arith, ap (at (set (replicate n None) target (Some 0))) l ∙ first-at n target lt)
    least i (suc s) le l = absurd (omega (arith, le))

-- ---- how the search begins and ends

module _ {X : Type 0} (items : X → List ℕ) (next : List (List ℕ)) (back : List X) (reversed : IsReversed next (map items back)) where
  as_long : length back ≡ length next
  as_long = sym (length-map back items) ∙ reversed.long

  pub started : (n target : ℕ) (away : Away) (edge : List ℕ) → n ≡ length back → target < length back → away ≡ replicate n None → edge ≡ target ∷ []
      → IsLevel next target 0 (set away target (Some 0)) edge
  started n target away edge long lt a e =
      subst (IsLevel next target 0 (set away target (Some 0))) (sym e) (subst (λ l. IsLevel next target 0 (set l target (Some 0)) (target ∷ [])) (sym a)
      (first-level next n target (long ∙ as_long) (omega (arith, long, lt))))

  pub ended : (target level : ℕ) (away : Away) (edge : List ℕ) → length back ≤ level → IsLevel next target level away edge → AreAway next target away
  ended target level away edge le is = all-away next target level away edge is (by (cases_lt 0 (length edge)))
    where
      by : (0 < length edge) ⊎ (length edge ≤ 0) → length edge ≡ 0
      by (inl some) = absurd (let l = is.left some in let e = as_long in omega (arith, l, e, le))
      by (inr none) = omega (arith, none)
