-- Lists of which one element is replaced, and numbers that stand in a list.
use Rattle.std.proofs.Common.{◌≡◌, ◌≢◌, ◌<◌, ◌≤◌, ◌+◌, ◌++◌, ◌==◌, ◌∙◌, ℕ, zero, suc, Bool, true, false, List, [], ◌∷◌, Some, None, length, refl, sym, subst, ap, inl, inr, ◌⊎◌, arith}
use Rattle.std.specs.Prelude.{get_or, if◌then◌else◌, map, remove, slice_get, slice_set}
use Rattle.std.proofs.lemmas.Bool.{eqb-true, eqb-false, eq-eqb, ne_eqb}
use Rattle.machine_model.specs.Strands.{times}
use Rattle.machine_model.proofs.Once.{some-same}

-- ---- numbers

pub same-or : (m n : ℕ) → (m ≡ n) ⊎ (m ≢ n)
same-or m n = by (m == n) refl
  where
    by : (b : Bool) → m == n ≡ b → (m ≡ n) ⊎ (m ≢ n)
    by true e = inl (eqb-true m n e)
    by false e = inr (eqb-false m n e)

pub if-same : {A : Type 0} (m n : ℕ) (x y : A) → m ≡ n → (if m == n then x else y) ≡ x
if-same m n x y e = ap (λ b. if b then x else y) (eq-eqb m n e)

pub if-other : {A : Type 0} (m n : ℕ) (x y : A) → m ≢ n → (if m == n then x else y) ≡ y
if-other m n x y ne = ap (λ b. if b then x else y) (ne_eqb m n ne)

-- ---- one element is replaced

pub set-cases : {A : Type 0} (P : A → Type 0) (l : List A) (i j : ℕ) (y d : A) → (j ≡ i → P y) → ((j ≡ i → length l ≤ j) → P (get_or l j d)) → P (get_or (slice_set l i y) j d)
set-cases P [] i j y d same other = other (λ e. omega arith)
set-cases P (x ∷ l) zero zero y d same other = same refl
set-cases P (x ∷ l) zero (suc j) y d same other = other (λ e. omega (arith, e))
set-cases P (x ∷ l) (suc i) zero y d same other = other (λ e. omega (arith, e))
set-cases P (x ∷ l) (suc i) (suc j) y d same other = set-cases P l i j y d (λ e. same (ap suc e)) (λ out. other (λ e. let le : length l ≤ j = out (omega (arith, e)) in omega (arith, le)))

-- a new element that shows the same
pub set-view : {A B : Type 0} (f : A → B) (l : List A) (i j : ℕ) (y d : A) → f y ≡ f (get_or l i d) → f (get_or (slice_set l i y) j d) ≡ f (get_or l j d)
set-view f [] i j y d e = refl
set-view f (x ∷ l) zero zero y d e = e
set-view f (x ∷ l) zero (suc j) y d e = refl
set-view f (x ∷ l) (suc i) zero y d e = refl
set-view f (x ∷ l) (suc i) (suc j) y d e = set-view f l i j y d e

pub slice-other : {A : Type 0} (l : List A) (i j : ℕ) (y : A) → j ≢ i → slice_get (slice_set l i y) j ≡ slice_get l j
slice-other [] i j y ne = refl
slice-other (x ∷ l) zero zero y ne = absurd (ne refl)
slice-other (x ∷ l) zero (suc j) y ne = refl
slice-other (x ∷ l) (suc i) zero y ne = refl
slice-other (x ∷ l) (suc i) (suc j) y ne = slice-other l i j y (λ e. ne (ap suc e))

pub slice-same : {A : Type 0} (l : List A) (i : ℕ) (y z : A) → slice_get (slice_set l i y) i ≡ Some z → y ≡ z
slice-same [] i y z e = absurd (let bad : ⊥ = cc in bad)
slice-same (x ∷ l) zero y z e = some-same y z e
slice-same (x ∷ l) (suc i) y z e = slice-same l i y z e

pub slice-here : {A : Type 0} (l : List A) (i : ℕ) (y : A) → i < length l → slice_get (slice_set l i y) i ≡ Some y
slice-here [] i y lt = absurd (omega (arith, lt))
slice-here (x ∷ l) zero y lt = refl
slice-here (x ∷ l) (suc i) y lt = slice-here l i y (omega (arith, lt))

-- what stands there is the new element, or what stood there
pub slice-cases : {A : Type 0} (l : List A) (i j : ℕ) (y z : A) → slice_get (slice_set l i y) j ≡ Some z → ((j ≡ i) × (y ≡ z)) ⊎ ((j ≢ i) × (slice_get l j ≡ Some z))
slice-cases l i j y z e = by (same-or j i)
  where
    by : (j ≡ i) ⊎ (j ≢ i) → ((j ≡ i) × (y ≡ z)) ⊎ ((j ≢ i) × (slice_get l j ≡ Some z))
    by (inl is) = inl (is, slice-same l i y z (subst (λ k. slice_get (slice_set l i y) k ≡ Some z) is e))
    by (inr ne) = inr (ne, sym (slice-other l i j y ne) ∙ e)

-- ---- behind a list

pub slice-before : {A : Type 0} (l more : List A) (n : ℕ) → n < length l → slice_get (l ++ more) n ≡ slice_get l n
slice-before [] more n lt = absurd (omega (arith, lt))
slice-before (x ∷ l) more zero lt = refl
slice-before (x ∷ l) more (suc n) lt = slice-before l more n (omega (arith, lt))

-- one element more: it is the last one, or one of before
pub slice-more : {A : Type 0} (l : List A) (y z : A) (n : ℕ) → slice_get (l ++ y ∷ []) n ≡ Some z → ((n ≡ length l) × (y ≡ z)) ⊎ (slice_get l n ≡ Some z)
slice-more [] y z zero e = inl (refl, some-same y z e)
slice-more [] y z (suc n) e = absurd (let bad : ⊥ = cc in bad)
slice-more (x ∷ l) y z zero e = inr e
slice-more (x ∷ l) y z (suc n) e = by (slice-more l y z n e)
  where
    by : ((n ≡ length l) × (y ≡ z)) ⊎ (slice_get l n ≡ Some z) → ((suc n ≡ suc (length l)) × (y ≡ z)) ⊎ (slice_get l n ≡ Some z)
    by (inl (at, is)) = inl (ap suc at, is)
    by (inr e) = inr e

pub slice-last : {A : Type 0} (l : List A) (y : A) (n : ℕ) → n ≡ length l → slice_get (l ++ y ∷ []) n ≡ Some y
slice-last [] y zero e = refl
slice-last [] y (suc n) e = absurd (omega (arith, e))
slice-last (x ∷ l) y zero e = absurd (omega (arith, e))
slice-last (x ∷ l) y (suc n) e = slice-last l y n (omega (arith, e))

pub slice-past : {A : Type 0} (l : List A) (n : ℕ) → length l ≤ n → slice_get l n ≡ None
slice-past [] n le = refl
slice-past (x ∷ l) zero le = absurd (omega (arith, le))
slice-past (x ∷ l) (suc n) le = slice-past l n (omega (arith, le))

pub get-more : {A : Type 0} (P : A → Type 0) (l : List A) (y d : A) (n : ℕ) → (n ≡ length l → P y) → (n ≢ length l → P (get_or l n d)) → P (get_or (l ++ y ∷ []) n d)
get-more P [] y d zero last before = last refl
get-more P [] y d (suc n) last before = before (λ e. omega (arith, e))
get-more P (x ∷ l) y d zero last before = before (λ e. omega (arith, e))
get-more P (x ∷ l) y d (suc n) last before = get-more P l y d n (λ e. last (ap suc e)) (λ ne. before (λ e. ne (omega (arith, e))))

pub get-past : {A : Type 0} (l : List A) (n : ℕ) (d : A) → length l ≤ n → get_or l n d ≡ d
get-past [] n d le = refl
get-past (x ∷ l) zero d le = absurd (omega (arith, le))
get-past (x ∷ l) (suc n) d le = get-past l n d (omega (arith, le))

-- ---- how often a number stands in a list

pub times-more : (n : ℕ) (ms more : List ℕ) → times n (ms ++ more) ≡ times n ms + times n more
times-more n [] more = omega arith
times-more n (m ∷ ms) more = let e = times-more n ms more in omega (arith, e)

pub times-remove : (n k : ℕ) (ms : List ℕ) (i : ℕ) → slice_get ms i ≡ Some k → times n ms ≡ (if k == n then 1 else 0) + times n (remove ms i)
times-remove n k [] i e = absurd (let bad : ⊥ = cc in bad)
times-remove n k (m ∷ ms) zero e = ap (λ z. (if z == n then 1 else 0) + times n ms) (some-same m k e)
times-remove n k (m ∷ ms) (suc i) e = let h = times-remove n k ms i e in omega (arith, h)

-- ---- lists that are mapped

pub from-map : {A B : Type 0} (f : A → B) (l : List A) (n : ℕ) (y : B) → slice_get (map f l) n ≡ Some y → (x : A) × (slice_get l n ≡ Some x) × (f x ≡ y)
from-map f [] n y e = absurd (let bad : ⊥ = cc in bad)
from-map f (x ∷ l) zero y e = (x, refl, some-same (f x) y e)
from-map f (x ∷ l) (suc n) y e = from-map f l n y e
