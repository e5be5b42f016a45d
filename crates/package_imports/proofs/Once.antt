-- The order of modules has each module once.
use Rattle.std.proofs.Common.{◌≡◌, ◌≤◌, ◌<◌, ◌+◌, ◌||◌, ℕ, zero, suc, Bool, true, false, cond, not, nat_eq, List, [], ◌∷◌, ◌++◌, length, ◌⊎◌, inl, inr, refl, sym, ap, ◌∙◌, subst, arith}
use Rattle.std.specs.Prelude.{Contains, filter}
use Rattle.std.specs.List.{range_with_len}
use Rattle.std.proofs.lemmas.Bool.{eqb-true}
use Rattle.std.proofs.lemmas.List.Folds.{list_any-append}
use Rattle.std.proofs.lemmas.Map.Views.{Contains-from_any}
use Rattle.graphs.specs.Cycles.{followers}
use Rattle.graphs.specs.Ordering.{IsInside}
use Rattle.package_imports.specs.Order.{IsEachOnce, IsModuleOrder, IsOnce, Walks, stays, passes, comes, has, others}
use Rattle.package_imports.proofs.Others.{has-it, not-true, same-number}

-- ---- tests

clash : (b : Bool) → b ≡ false → b ≡ true → ⊥
clash b f t = let bad : false ≡ true = sym f ∙ t in let no-way : ⊥ = cc in no-way

one-of : (a b : Bool) → (a || b) ≡ true → (a ≡ true) ⊎ (b ≡ true)
one-of true b h = inl refl
one-of false b h = inr h

or-right : (a b : Bool) → b ≡ true → (a || b) ≡ true
or-right true b h = refl
or-right false b h = h

left-none : (a b : Bool) → (a || b) ≡ false → a ≡ false
left-none true b h = h
left-none false b h = refl

both-none : (a b : Bool) → a ≡ false → b ≡ false → (a || b) ≡ false
both-none true b f g = f
both-none false b f g = g

or-none : (a : Bool) → (a || false) ≡ a
or-none true = refl
or-none false = refl

moved : (a e n o : Bool) → (((a || (e || false)) || n) || o) ≡ (a || (n || (e || o)))
moved true e n o = refl
moved false true true o = refl
moved false true false o = refl
moved false false true o = refl
moved false false false o = refl

-- ---- members

has-append : (xs ys : List ℕ) (j : ℕ) → has (xs ++ ys) j ≡ (has xs j || has ys j)
has-append xs ys j = list_any-append (λ k. nat_eq k j) xs ys

has-first : (x : ℕ) (xs : List ℕ) → has (x ∷ xs) x ≡ true
has-first x xs = ap (λ b. b || has xs x) (same-number x)

contains-it : (xs : List ℕ) (j : ℕ) → has xs j ≡ true → Contains xs j
contains-it xs j h = Contains-from_any {eq = λ a b. nat_eq b a} (λ x y e. sym (eqb-true y x e)) j xs h

once-append : (xs ys : List ℕ) → IsOnce xs → IsOnce ys → ((j : ℕ) → has xs j ≡ true → has ys j ≡ false) → IsOnce (xs ++ ys)
once-append [] ys o p apart = p
once-append (x ∷ xs) ys o p apart =
    let here = has-append xs ys x ∙ both-none (has xs x) (has ys x) o.0 (apart x (has-first x xs)) in
    (here, once-append xs ys o.1 p (λ j h. apart j (or-right (nat_eq x j) (has xs j) h)))

-- ---- walks

module _ (next : List (List ℕ)) where
  -- what was come to in the end was come to before, or is left
  members : {before ns order after : List ℕ} → Walks next before ns order after → (j : ℕ) → has after j ≡ (has before j || has order j)
  members (stays before) j = sym (or-none (has before j))
  members (passes before i rest order after old w) j = members w j
  members (comes before i rest inner between order after fresh w v) j =
      members v j
      ∙ (ap (λ b. b || has order j) (members w j ∙ ap (λ b. b || has inner j) (has-append before (i ∷ []) j))
      ∙ (moved (has before j) (nat_eq i j) (has inner j) (has order j) ∙ ap (λ b. has before j || b) (sym (has-append inner (i ∷ order) j))))

  three : (i j : ℕ) (inner order : List ℕ) → has (inner ++ i ∷ order) j ≡ true → (has inner j ≡ true) ⊎ ((i ≡ j) ⊎ (has order j ≡ true))
  three i j inner order h = by (one-of (has inner j) (has (i ∷ order) j) (sym (has-append inner (i ∷ order) j) ∙ h))
    where
      later : (nat_eq i j ≡ true) ⊎ (has order j ≡ true) → (has inner j ≡ true) ⊎ ((i ≡ j) ⊎ (has order j ≡ true))
      later (inl e) = inr (inl (eqb-true i j e))
      later (inr o) = inr (inr o)

      by : (has inner j ≡ true) ⊎ (has (i ∷ order) j ≡ true) → (has inner j ≡ true) ⊎ ((i ≡ j) ⊎ (has order j ≡ true))
      by (inl n) = inl n
      by (inr o) = later (one-of (nat_eq i j) (has order j) o)

  -- what is left was not come to before
  none-before : {before ns order after : List ℕ} → Walks next before ns order after → (j : ℕ) → has order j ≡ true → has before j ≡ false
  none-before (stays before) j h = absurd (clash false refl h)
  none-before (passes before i rest order after old w) j h = none-before w j h
  none-before (comes before i rest inner between order after fresh w v) j h =
      elim (three i j inner order h) [
        | inl here ↦ left-none (has before j) (has (i ∷ []) j) (sym (has-append before (i ∷ []) j) ∙ none-before w j here)
        | inr other ↦
            elim other [
              | inl e ↦ subst (λ k. has before k ≡ false) e fresh
              | inr o ↦
                  left-none (has before j) (has (i ∷ []) j)
                  (sym (has-append before (i ∷ []) j) ∙ left-none (has (before ++ i ∷ []) j) (has inner j) (sym (members w j) ∙ none-before v j o))
            ]
      ]

  -- and it is left once
  walk-once : {before ns order after : List ℕ} → Walks next before ns order after → IsOnce order
  walk-once (stays before) = tt
  walk-once (passes before i rest order after old w) = walk-once w
  walk-once (comes before i rest inner between order after fresh w v) =
      let came : has between i ≡ true = members w i ∙ ap (λ b. b || has inner i) (has-it before i) in
      let never : has order i ≡ false = not-true (has order i) (λ o. clash (has between i) (none-before v i o) came) in
      once-append inner (i ∷ order) (walk-once w) (never, walk-once v)
      (λ j n. not-true (has (i ∷ order) j)
      (λ h.
      elim (one-of (nat_eq i j) (has order j) h) [
        | inl e ↦ clash (has (before ++ i ∷ []) j) (none-before w j n) (subst (λ k. has (before ++ i ∷ []) k ≡ true) (eqb-true i j e) (has-it before i))
        | inr o ↦ clash (has between j) (none-before v j o) (members w j ∙ or-right (has (before ++ i ∷ []) j) (has inner j) n)
      ]))

  -- where the walk goes to numbers of the graph, it leaves such numbers
  walk-inside : {before ns order after : List ℕ} → Walks next before ns order after → IsInside next → ((j : ℕ) → has ns j ≡ true → j < length next) → (j : ℕ) → has order j ≡ true → j < length next
  walk-inside (stays before) inside goes j h = absurd (clash false refl h)
  walk-inside (passes before i rest order after old w) inside goes j h = walk-inside w inside (λ k q. goes k (or-right (nat_eq i k) (has rest k) q)) j h
  walk-inside (comes before i rest inner between order after fresh w v) inside goes j h =
      elim (three i j inner order h) [
        | inl here ↦ walk-inside w inside (λ k q. inside i k (contains-it (followers next i) k q)) j here
        | inr other ↦
            elim other [
              | inl e ↦ subst (λ k. k < length next) e (goes i (has-first i rest))
              | inr o ↦ walk-inside v inside (λ k q. goes k (or-right (nat_eq i k) (has rest k) q)) j o
            ]
      ]

-- ---- the others

range-low : (a n j : ℕ) → has (range_with_len a n) j ≡ true → (a ≤ j) × (j < a + n)
range-low a zero j h = absurd (clash false refl h)
range-low a (suc n) j h = by (one-of (nat_eq a j) (has (range_with_len (a + 1) n) j) h) (range-low (a + 1) n j)
  where
    by : (nat_eq a j ≡ true) ⊎ (has (range_with_len (a + 1) n) j ≡ true) → (has (range_with_len (a + 1) n) j ≡ true → (a + 1 ≤ j) × (j < a + 1 + n)) → (a ≤ j) × (j < a + suc n)
    by (inl e) later = let same = eqb-true a j e in (omega (arith, same), omega (arith, same))
    by (inr o) later = let low = (later o).0 in let high = (later o).1 in (omega (arith, low), omega (arith, high))

range-has : (a n j : ℕ) → a ≤ j → j < a + n → has (range_with_len a n) j ≡ true
range-has a zero j low high = absurd (omega (arith, low, high))
range-has a (suc n) j low high = by (here-or-above a j low) (λ more. range-has (a + 1) n j more (omega (arith, high)))
  where
    here-or-above : (a j : ℕ) → a ≤ j → (a ≡ j) ⊎ (a + 1 ≤ j)
    here-or-above a j low = grind (arith, low)

    by : (a ≡ j) ⊎ (a + 1 ≤ j) → (a + 1 ≤ j → has (range_with_len (a + 1) n) j ≡ true) → has (range_with_len a (suc n)) j ≡ true
    by (inl e) later = subst (λ k. has (range_with_len a (suc n)) k ≡ true) e (has-first a (range_with_len (a + 1) n))
    by (inr more) later = or-right (nat_eq a j) (has (range_with_len (a + 1) n) j) (later more)

range-once : (a n : ℕ) → IsOnce (range_with_len a n)
range-once a zero = tt
range-once a (suc n) = (not-true (has (range_with_len (a + 1) n) a) (λ h. let low = (range-low (a + 1) n a h).0 in omega (arith, low)), range-once (a + 1) n)

module _ (p : ℕ → Bool) where
  kept-of : (xs : List ℕ) (j : ℕ) → has (filter p xs) j ≡ true → (has xs j ≡ true) × (p j ≡ true)
  kept-of [] j h = absurd (clash false refl h)
  kept-of (x ∷ xs) j h = by (p x) refl h (kept-of xs j)
    where
      here : (nat_eq x j ≡ true) ⊎ (has (filter p xs) j ≡ true) → p x ≡ true → (has (filter p xs) j ≡ true → (has xs j ≡ true) × (p j ≡ true)) → (has (x ∷ xs) j ≡ true) × (p j ≡ true)
      here (inl e) yes-p later = (ap (λ b. b || has xs j) e, subst (λ k. p k ≡ true) (eqb-true x j e) yes-p)
      here (inr o) yes-p later = (or-right (nat_eq x j) (has xs j) (later o).0, (later o).1)

      by : (b : Bool) → p x ≡ b → has (cond b (x ∷ filter p xs) (filter p xs)) j ≡ true → (has (filter p xs) j ≡ true → (has xs j ≡ true) × (p j ≡ true)) → (has (x ∷ xs) j ≡ true) × (p j ≡ true)
      by true e h later = here (one-of (nat_eq x j) (has (filter p xs) j) h) e later
      by false e h later = (or-right (nat_eq x j) (has xs j) (later h).0, (later h).1)

  keeps : (xs : List ℕ) (j : ℕ) → has xs j ≡ true → p j ≡ true → has (filter p xs) j ≡ true
  keeps [] j h q = absurd (clash false refl h)
  keeps (x ∷ xs) j h q = by (p x) refl (one-of (nat_eq x j) (has xs j) h) (λ o. keeps xs j o q)
    where
      by : (b : Bool) → p x ≡ b → (nat_eq x j ≡ true) ⊎ (has xs j ≡ true) → (has xs j ≡ true → has (filter p xs) j ≡ true) → has (cond b (x ∷ filter p xs) (filter p xs)) j ≡ true
      by true e (inl same) later = ap (λ b. b || has (filter p xs) j) same
      by true e (inr o) later = or-right (nat_eq x j) (has (filter p xs) j) (later o)
      by false e (inl same) later = absurd (clash (p x) e (subst (λ k. p k ≡ true) (sym (eqb-true x j same)) q))
      by false e (inr o) later = later o

  filter-once : (xs : List ℕ) → IsOnce xs → IsOnce (filter p xs)
  filter-once [] o = tt
  filter-once (x ∷ xs) o = by (p x) (filter-once xs o.1)
    where
      by : (b : Bool) → IsOnce (filter p xs) → IsOnce (cond b (x ∷ filter p xs) (filter p xs))
      by true rest = (not-true (has (filter p xs) x) (λ h. clash (has xs x) o.0 (kept-of xs x h).0), rest)
      by false rest = rest

open-of : (b : Bool) → not b ≡ true → b ≡ false
open-of true h = sym h
open-of false h = refl

-- ---- all modules

pub each-once : (next : List (List ℕ)) (order : List ℕ) → IsInside next → 0 < length next → IsModuleOrder next order → IsEachOnce (length next) order
each-once next order inside some h =
    let count = length next in
    let seen = h.come_to in
    let p : ℕ → Bool = λ i. not (has seen i) in
    let first : (j : ℕ) → has (0 ∷ []) j ≡ true → j < count = λ j q. subst (λ k. k < count) (eqb-true 0 j (sym (or-none (nat_eq 0 j)) ∙ q)) some in
    let whole = has-append h.reached (others count seen) in
    let left-of : (j : ℕ) → has h.reached j ≡ true → has seen j ≡ true = λ j q. members next h.walks j ∙ q in
    let P : List ℕ → Type 0 = λ l. IsEachOnce count l in
    subst P (sym h.is) (record {
      inside = λ j q.
          elim (one-of (has h.reached j) (has (others count seen) j) (sym (whole j) ∙ q)) [
            | inl r ↦ walk-inside next h.walks inside first j r
            | inr o ↦ let high = (range-low 0 count j (kept-of p (range_with_len 0 count) j o).0).1 in omega (arith, high)
          ];
      all = λ j lt. whole j ∙ reach (has seen j) (has h.reached j) (has (others count seen) j) (members next h.walks j) (λ f. keeps p (range_with_len 0 count) j (range-has 0 count j (omega arith) (omega (arith, lt))) (ap not f));
      once = once-append h.reached (others count seen) (walk-once next h.walks) (filter-once p (range_with_len 0 count) (range-once 0 count))
          (λ j r. not-true (has (others count seen) j) (λ o. clash (has seen j) (open-of (has seen j) (kept-of p (range_with_len 0 count) j o).1) (left-of j r)));
    })
  where
    reach : (s r o : Bool) → s ≡ r → (s ≡ false → o ≡ true) → (r || o) ≡ true
    reach s true o e f = refl
    reach s false o e f = f e
