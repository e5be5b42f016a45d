-- Walks among numbers: where no walk comes back to where it began, each is no longer than there are numbers.
use Rattle.std.proofs.Common.{◌≡◌, ◌<◌, ◌≤◌, ◌+◌, ◌-◌, ◌||◌, ◌⊎◌, ℕ, zero, suc, Bool, true, false, List, [], ◌∷◌, Some, inl, inr, length, refl, sym, subst, arith}
use Rattle.std.proofs.Math.Dec.{eqb}
use Rattle.std.proofs.lemmas.Bool.{eqb-true, false≢true}
use Rattle.std.proofs.lemmas.Map.Keys.{IsDistinct-cons}
use Rattle.std.proofs.lemmas.Map.Steps.{length-le_from_distinct_below}
use Rattle.std.specs.List.{AllByRecursion, IsDistinct, list_any}
use Rattle.std.specs.Prelude.{All, slice_get}
use Rattle.code_keeping.proofs.Changing.{below-or-not}
use Rattle.code_keeping.proofs.Growing.{all-from}
use Rattle.code_keeping.proofs.Lists.{all-at}
use Rattle.code_keeping.proofs.Serving.{all-to}

abbrev pub IsAmong : {A : Type 0} → List A → A → Type 0
IsAmong xs x = (k : ℕ) × (slice_get xs k ≡ Some x)

none-apart : (q : ℕ) (xs : List ℕ) → list_any (eqb q) xs ≡ false → AllByRecursion (λ y. eqb q y ≡ false) xs
none-apart q [] e = tt
none-apart q (x ∷ xs) e = by (eqb q x) refl (none-apart q xs) e
  where
    by : (b : Bool) → eqb q x ≡ b → (list_any (eqb q) xs ≡ false → AllByRecursion (λ y. eqb q y ≡ false) xs) → (b || list_any (eqb q) xs) ≡ false → AllByRecursion (λ y. eqb q y ≡ false) (x ∷ xs)
    by true e rest h = absurd (false≢true (sym h))
    by false e rest h = (e, rest h)

nil-apart : IsDistinct eqb []
unfolding IsDistinct
nil-apart = tt

module _ (kids : ℕ → List ℕ) where
  -- so many steps lead from one number to the other
  abbrev pub Leads : ℕ → ℕ → ℕ → Type 0
  Leads n zero m = n ≡ m
  Leads n (suc k) m = (j : ℕ) × IsAmong (kids n) j × Leads j k m

  -- each walk from there has fewer steps
  abbrev pub IsDeep : ℕ → ℕ → Type 0
  IsDeep zero n = ⊥
  IsDeep (suc k) n = All (IsDeep k) (kids n)

  deep-more : (k n : ℕ) → IsDeep k n → IsDeep (suc k) n
  deep-more zero n h = absurd h
  deep-more (suc k) n h = all-to (IsDeep k) (IsDeep (suc k)) (λ m. deep-more k m) (kids n) h

  pub deep-up : (k j n : ℕ) → k ≤ j → IsDeep k n → IsDeep j n
  deep-up k zero n le h = subst (λ i. IsDeep i n) (let q : k ≡ 0 = omega (arith, le) in q) h
  deep-up k (suc j) n le h = by (below-or-not k (suc j)) (λ l. deep-up k j n l h)
    where
      by : (k < suc j) ⊎ (suc j ≤ k) → (k ≤ j → IsDeep j n) → IsDeep (suc j) n
      by (inl l) up = deep-more j n (up (omega (arith, l)))
      by (inr l) up = subst (λ i. IsDeep i n) (let q : k ≡ suc j = omega (arith, le, l) in q) h

  pub leads-on : (n k m j : ℕ) → Leads n k m → IsAmong (kids m) j → Leads n (suc k) j
  leads-on n zero m j e a = (j, subst (λ x. IsAmong (kids x) j) (sym e) a, refl)
  leads-on n (suc k) m j (i, among, more) a = (i, among, leads-on i k m j more a)

  pub deep-led : (k n i m : ℕ) → IsDeep k n → Leads n i m → (l : ℕ) × (l + i ≡ k) × IsDeep l m
  deep-led k n zero m h e = (k, omega arith, subst (IsDeep k) e h)
  deep-led zero n (suc i) m h w = absurd h
  deep-led (suc k) n (suc i) m h (j, (p, ep), more) = let (l, le, deep) = deep-led k j i m (all-at (IsDeep k) (kids n) p j h ep) more in (l, omega (arith, le), deep)

  -- nothing deep comes back to itself
  pub no-return : (k n j : ℕ) → IsDeep k n → Leads n (suc j) n → ⊥
  no-return zero n j h w = h
  no-return (suc k) n j h w = let (l, le, deep) = deep-led (suc k) n (suc j) n h w in no-return k n j (deep-up l k n (omega (arith, le)) deep) w

  -- `R k n` says that the number n is reached in k steps
  module _ (limit : ℕ) (R : ℕ → ℕ → Type 0) (below : (k n : ℕ) → R k n → n < limit) (closed : (k n m : ℕ) → R k n → IsAmong (kids n) m → R (suc k) m)
      (straight : (k n j : ℕ) → R k n → k < limit → j < limit → Leads n (suc j) n → ⊥) where
    -- those through which one came, the last one first
    record IsWay (n : ℕ) (before : List ℕ) : Type 0 where
      apart : IsDistinct eqb (n ∷ before)
      each : (q : ℕ) → list_any (eqb q) before ≡ true → (i : ℕ) × (i < limit) × R i q × ((k : ℕ) × (k < length before) × Leads q (suc k) n)

    module _ (n : ℕ) (before : List ℕ) (r : R (length before) n) (way : IsWay n before) (few : length before < limit) (m : ℕ) (among : IsAmong (kids n) m) where
      comes-back : list_any (eqb m) (n ∷ before) ≡ true → ⊥
      comes-back h = by (eqb m n) refl h
        where
          by : (b : Bool) → eqb m n ≡ b → (b || list_any (eqb m) before) ≡ true → ⊥
          by true e t = straight (length before) n 0 r few (omega (arith, few)) (n, subst (λ x. IsAmong (kids n) x) (eqb-true m n e) among, refl)
          by false e t = let (i, near, rm, (k, lt, leads)) = way.each m t in straight i m (suc k) rm near (omega (arith, lt, few)) (leads-on m (suc k) n m leads among)

      goes-on : IsWay m (n ∷ before)
      goes-on = record {
        apart = IsDistinct-cons eqb m (n ∷ before) (none-apart m (n ∷ before) (new (list_any (eqb m) (n ∷ before)) refl)) way.apart;
        each = λ q e. by q (eqb q n) refl e;
      }
        where
          new : (b : Bool) → list_any (eqb m) (n ∷ before) ≡ b → b ≡ false
          new true e = absurd (comes-back e)
          new false e = refl

          by : (q : ℕ) (b : Bool) → eqb q n ≡ b → (b || list_any (eqb q) before) ≡ true → (i : ℕ) × (i < limit) × R i q × ((k : ℕ) × (k < length (n ∷ before)) × Leads q (suc k) m)
          by q true e t = let same = eqb-true q n e in (length before, few, subst (R (length before)) (sym same) r, (0, omega arith, subst (λ x. Leads x 1 m) (sym same) (m, among, refl)))
          by q false e t = let (i, near, rq, (k, lt, leads)) = way.each q t in (i, near, rq, (suc k, omega (arith, lt), leads-on q (suc k) n m leads among))

      -- there is no room for one more
      past : length before + 1 ≡ limit → ⊥
      past long =
          let rm = closed (length before) n m r among in
          let most = length-le_from_distinct_below (m ∷ n ∷ before) limit goes-on.apart (λ q e. by rm q (eqb q m) refl e) in
          let l : length (m ∷ n ∷ before) ≡ length before + 2 = omega arith in
          omega (arith, long, most, l)
        where
          by : R (suc (length before)) m → (q : ℕ) (b : Bool) → eqb q m ≡ b → (b || list_any (eqb q) (n ∷ before)) ≡ true → q < limit
          by rm q true e t = subst (λ x. x < limit) (sym (eqb-true q m e)) (below (suc (length before)) m rm)
          by rm q false e t = let (i, near, rq, leads) = goes-on.each q t in below i q rq

    deep : (j n : ℕ) (before : List ℕ) → R (length before) n → IsWay n before → length before + suc j ≡ limit → IsDeep (suc j) n
    deep zero n before r way long = all-from (IsDeep zero) (kids n) (λ i m e. past n before r way (omega (arith, long)) m (i, e) (omega (arith, long)))
    deep (suc j) n before r way long =
        all-from (IsDeep (suc j)) (kids n)
        (λ i m e. deep j m (n ∷ before) (closed (length before) n m r (i, e)) (goes-on n before r way (omega (arith, long)) m (i, e)) (let l : length (n ∷ before) ≡ length before + 1 = omega arith in omega (arith, l, long)))

    pub all-deep : (n : ℕ) → R 0 n → IsDeep limit n
    all-deep n r =
        let lt = below 0 n r in
        subst (λ k. IsDeep k n) (let q : suc (limit - 1) ≡ limit = omega (arith, lt) in q)
        (deep (limit - 1) n [] r (record { apart = IsDistinct-cons eqb n [] tt nil-apart; each = λ q e. absurd (false≢true e) }) (let q : 0 + suc (limit - 1) ≡ limit = omega (arith, lt) in q))
