-- A graph of numbers without cycles has ranks that fall along each step: how many steps may follow a number.
use Rattle.std.proofs.Common.{◌≡◌, ◌<◌, ◌≤◌, ◌⊎◌, ◌+◌, ◌++◌, ℕ, zero, suc, Bool, true, false, List, [], ◌∷◌, get_or, length, refl, sym, subst, inl, inr, arith}
use Rattle.std.proofs.Math.Dec.{eqb}
use Rattle.std.proofs.Math.Nat.{le-max_left, le-max_right, max-le}
use Rattle.std.specs.List.{AllByRecursion, IsDistinct, list_any}
use Rattle.std.specs.Prelude.{Contains, max, ⊤}
use Rattle.std.proofs.lemmas.Bool.{eqb-true, false≢true, or_cases}
use Rattle.std.proofs.lemmas.Map.Keys.{IsDistinct-cons}
use Rattle.std.proofs.lemmas.Map.Steps.{length-le_from_distinct_below}
use Rattle.graphs.specs.Cycles.{IsOnCycle, IsWay, Follows, followers}
use Rattle.graphs.specs.Ordering.{IsInside}
use Rattle.graphs.proofs.Levels.{follows-place}
use Rattle.worker_pairing.proofs.Paired.{in-front}
use Rattle.worker_ranks.proofs.NotOnCycle.{way-on}
use Rattle.worker_ranks.proofs.Numbered.{Falls}

-- ---- one more than the most of these

abbrev highest : (ℕ → ℕ) → List ℕ → ℕ
highest f [] = 0
highest f (t ∷ ts) = max (suc (f t)) (highest f ts)

highest-each : (f : ℕ → ℕ) (ts : List ℕ) (t : ℕ) → Contains ts t → f t < highest f ts
highest-each f [] t (k, lt, same) = absurd (omega (arith, lt))
highest-each f (x ∷ ts) t (zero, lt, same) = subst (λ y. f y < highest f (x ∷ ts)) same (let le : suc (f x) ≤ highest f (x ∷ ts) = le-max_left (suc (f x)) (highest f ts) in omega (arith, le))
highest-each f (x ∷ ts) t (suc k, lt, same) =
    let more = highest-each f ts t (k, omega (arith, lt), same) in
    let le : highest f ts ≤ highest f (x ∷ ts) = le-max_right (suc (f x)) (highest f ts) in
    omega (arith, more, le)

module _ (next : List (List ℕ)) where
  -- so many steps lead on from there
  abbrev Walks : ℕ → ℕ → Type 0
  Walks zero s = ⊤
  Walks (suc k) s = (t : ℕ) × Follows next s t × Walks k t

  -- how many do, of so many at most
  abbrev depth : ℕ → ℕ → ℕ
  depth zero s = 0
  depth (suc k) s = highest (depth k) (followers next s)

  -- there are no more than those so far, or as many as may be
  deeper-each : (k : ℕ) (ts : List ℕ) → ((t : ℕ) → (depth (suc k) t ≤ depth k t) ⊎ Walks (suc k) t)
      → (highest (depth (suc k)) ts ≤ highest (depth k) ts) ⊎ ((t : ℕ) × Contains ts t × Walks (suc k) t)
  deeper-each k [] each = inl (omega arith)
  deeper-each k (x ∷ ts) each = by (each x) (deeper-each k ts each)
    where
      by : (depth (suc k) x ≤ depth k x) ⊎ Walks (suc k) x → (highest (depth (suc k)) ts ≤ highest (depth k) ts) ⊎ ((t : ℕ) × Contains ts t × Walks (suc k) t)
          → (highest (depth (suc k)) (x ∷ ts) ≤ highest (depth k) (x ∷ ts)) ⊎ ((t : ℕ) × Contains (x ∷ ts) t × Walks (suc k) t)
      by (inl le) (inl rest) =
          let left : suc (depth k x) ≤ highest (depth k) (x ∷ ts) = le-max_left (suc (depth k x)) (highest (depth k) ts) in
          let right : highest (depth k) ts ≤ highest (depth k) (x ∷ ts) = le-max_right (suc (depth k x)) (highest (depth k) ts) in
          inl (max-le {a = suc (depth (suc k) x)} {b = highest (depth (suc k)) ts} {k = highest (depth k) (x ∷ ts)} (omega (arith, le, left)) (omega (arith, rest, right)))
      by (inl le) (inr (t, c, walk)) = inr (t, in-front x ts t c, walk)
      by (inr walk) more = inr (x, (0, omega arith, refl), walk)

  deeper : (k s : ℕ) → (depth (suc k) s ≤ depth k s) ⊎ Walks (suc k) s
  deeper zero s = by (followers next s) refl
    where
      by : (ts : List ℕ) → followers next s ≡ ts → (highest (depth zero) (followers next s) ≤ 0) ⊎ ((t : ℕ) × Follows next s t × ⊤)
      by [] e = inl (subst (λ ts. highest (depth zero) ts ≤ 0) (sym e) (omega arith))
      by (t ∷ ts) e = inr (t, subst (λ xs. Contains xs t) (sym e) (0, omega arith, refl), tt)
  deeper (suc k) s = deeper-each k (followers next s) (deeper k)

  -- ---- no walk is as long as there are numbers

  -- those through which one came, each of which leads there
  abbrev Led : ℕ → List ℕ → Type 0
  Led s [] = ⊤
  Led s (q ∷ before) = ((ks : List ℕ) × IsWay next q ks s) × (q < length next) × Led s before

  led-on : (s t : ℕ) → Follows next s t → (before : List ℕ) → Led s before → Led t before
  led-on s t f [] led = tt
  led-on s t f (q ∷ before) ((ks, way), below, rest) = ((ks ++ s ∷ [], way-on next q ks s [] t way f), below, led-on s t f before rest)

  below-led : (s : ℕ) (before : List ℕ) → Led s before → (q : ℕ) → list_any (eqb q) before ≡ true → q < length next
  below-led s [] led q is = absurd (false≢true is)
  below-led s (x ∷ before) (way, lt, rest) q is = by (or_cases (eqb q x) (list_any (eqb q) before) is) (below-led s before rest q)
    where
      by : (eqb q x ≡ true) ⊎ (list_any (eqb q) before ≡ true) → (list_any (eqb q) before ≡ true → q < length next) → q < length next
      by (inl e) more = subst (λ y. y < length next) (sym (eqb-true q x e)) lt
      by (inr e) more = more e

  module _ (inside : IsInside next) (none : (i : ℕ) → ¬ IsOnCycle next i) where
    apart : (s : ℕ) (before : List ℕ) → Led s before → AllByRecursion (λ q. eqb s q ≡ false) before
    apart s [] led = tt
    apart s (q ∷ before) (way, below, rest) = (not-this (eqb s q) refl, apart s before rest)
      where
        not-this : (b : Bool) → eqb s q ≡ b → eqb s q ≡ false
        not-this true e = absurd (none s (subst (λ x. (ks : List ℕ) × IsWay next x ks s) (sym (eqb-true s q e)) way))
        not-this false e = e

    nil-distinct : IsDistinct eqb []
    unfolding IsDistinct
    nil-distinct = tt

    no-long : (k s : ℕ) (before : List ℕ) → s < length next → Led s before → IsDistinct eqb before → length before + k ≡ length next → Walks k s → ⊥
    no-long zero s before lt led distinct long walk =
        let most = length-le_from_distinct_below (s ∷ before) (length next) (IsDistinct-cons eqb s before (apart s before led) distinct) (λ q is. by q (or_cases (eqb q s) (list_any (eqb q) before) is)) in
        let one : length (s ∷ before) ≡ length before + 1 = omega arith in
        omega (arith, most, long, one)
      where
        by : (q : ℕ) → (eqb q s ≡ true) ⊎ (list_any (eqb q) before ≡ true) → q < length next
        by q (inl e) = subst (λ y. y < length next) (sym (eqb-true q s e)) lt
        by q (inr e) = below-led s before led q e
    no-long (suc k) s before lt led distinct long (t, f, more) =
        let one : length (s ∷ before) ≡ length before + 1 = omega arith in
        no-long k t (s ∷ before) (inside s t f) (([], f), lt, led-on s t f before led) (IsDistinct-cons eqb s before (apart s before led) distinct) (omega (arith, long, one)) more

    depth-falls : (n : ℕ) → length next ≡ n → (s t : ℕ) → Follows next s t → depth n t < depth n s
    depth-falls zero long s t f = absurd (let lt = inside s t f in omega (arith, lt, long))
    depth-falls (suc k) long s t f = by (deeper k t)
      where
        by : (depth (suc k) t ≤ depth k t) ⊎ Walks (suc k) t → depth (suc k) t < depth (suc k) s
        by (inl le) = let less : depth k t < depth (suc k) s = highest-each (depth k) (followers next s) t f in omega (arith, le, less)
        by (inr walk) = absurd (no-long (suc k) t [] (inside s t f) tt nil-distinct (let start : 0 + suc k ≡ length next = omega (arith, long) in start) walk)

-- ---- as a list

abbrev listed : (ℕ → ℕ) → ℕ → List ℕ
listed f zero = []
listed f (suc n) = f 0 ∷ listed (λ i. f (suc i)) n

listed-at : (f : ℕ → ℕ) (n i : ℕ) → i < n → get_or (listed f n) i 0 ≡ f i
listed-at f zero i lt = absurd (omega (arith, lt))
listed-at f (suc n) zero lt = refl
listed-at f (suc n) (suc i) lt = listed-at (λ i. f (suc i)) n i (omega (arith, lt))

module _ (next : List (List ℕ)) (inside : IsInside next) (none : (i : ℕ) → ¬ IsOnCycle next i) where
  abbrev pub depths : List ℕ
  depths = listed (depth next (length next)) (length next)

  pub depths-fall : Falls next depths
  depths-fall s t f =
      let low = listed-at (depth next (length next)) (length next) t (inside s t f) in
      let high = listed-at (depth next (length next)) (length next) s (follows-place next s t f) in
      let less = depth-falls next inside none (length next) refl s t f in
      omega (arith, low, high, less)
