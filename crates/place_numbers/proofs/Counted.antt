-- Lists of numbers, of which one is one more, and numbers of messages put together of them.
use Rattle.std.proofs.Common.{◌≡◌, ◌∙◌, ◌↔◌, ◌⊎◌, ◌<◌, ◌+◌, ℕ, zero, suc, Bool, true, false, List, [], ◌∷◌, Option, Some, None, All, IsTrue, ap, arith, get_or, inl, inr, length, refl, slice_get, subst, sym}
use Rattle.std.specs.Prelude.{replicate}
use Rattle.std.proofs.lemmas.Bool.{false≢true}
use Rattle.std.proofs.lemmas.List.Elements.{All-cons, All-head, All-nil, All-tail}
use Rattle.stack_code.specs.declared.code.StackMap.{StackMap}
use Rattle.stack_code.specs.Flow.{one_more}
use Rattle.stack_code.specs.Places.{no_map, tally_of}
use Rattle.place_numbers.specs.inner.Changing.{tally_in}
use Rattle.place_numbers.specs.inner.Parts.{GoesUp}

-- ---- one more

same-list : (ns ms : List ℕ) → length ns ≡ length ms → ((k : ℕ) → k < length ns → get_or ms k 0 ≡ get_or ns k 0) → ms ≡ ns
same-list [] [] e h = refl
same-list [] (m ∷ ms) e h = absurd (omega (arith, e))
same-list (n ∷ ns) [] e h = absurd (omega (arith, e))
same-list (n ∷ ns) (m ∷ ms) e h =
    let head : m ≡ n = h 0 (omega arith) in
    let rest : ms ≡ ns = same-list ns ms (omega (arith, e)) (λ k lt. h (suc k) (omega (arith, lt))) in
    λ i. head i ∷ rest i

pub goes-up : (ns ms : List ℕ) (w : ℕ) → length ns ≡ length ms → ((k : ℕ) → k < length ns → GoesUp ns ms w k) → ms ≡ one_more ns w
goes-up [] [] w e h = refl
goes-up [] (m ∷ ms) w e h = absurd (omega (arith, e))
goes-up (n ∷ ns) [] w e h = absurd (omega (arith, e))
goes-up (n ∷ ns) (m ∷ ms) zero e h =
    let head : m ≡ suc n = (h 0 (omega arith)).0 refl in
    let rest : ms ≡ ns = same-list ns ms (omega (arith, e)) (λ k lt. (h (suc k) (omega (arith, lt))).1 (λ q. omega (arith, q))) in
    λ i. head i ∷ rest i
goes-up (n ∷ ns) (m ∷ ms) (suc w) e h =
    let head : m ≡ n = (h 0 (omega arith)).1 (λ q. omega (arith, q)) in
    let step : (k : ℕ) → k < length ns → GoesUp ns ms w k = λ k lt. ((λ q. (h (suc k) (omega (arith, lt))).0 (ap suc q)), (λ n. (h (suc k) (omega (arith, lt))).1 (λ q. n (omega (arith, q))))) in
    let rest : ms ≡ one_more ns w = goes-up ns ms w (omega (arith, e)) step in
    λ i. head i ∷ rest i

-- the same number of them
pub as-long : (ns : List ℕ) (w : ℕ) → length (one_more ns w) ≡ length ns
as-long [] w = refl
as-long (n ∷ ns) zero = refl
as-long (n ∷ ns) (suc w) = ap suc (as-long ns w)

went-up : (ns : List ℕ) (w k : ℕ) → k < length ns → GoesUp ns (one_more ns w) w k
went-up [] w k lt = absurd (omega (arith, lt))
went-up (n ∷ ns) zero zero lt = ((λ q. refl), (λ no-same. absurd (no-same refl)))
went-up (n ∷ ns) zero (suc k) lt = ((λ q. absurd (omega (arith, q))), (λ no-same. refl))
went-up (n ∷ ns) (suc w) zero lt = ((λ q. absurd (omega (arith, q))), (λ no-same. refl))
went-up (n ∷ ns) (suc w) (suc k) lt =
    let less : k < length ns = omega (arith, lt) in
    let h = went-up ns w k less in
    ((λ q. h.0 (omega (arith, q))), (λ no-same. h.1 (λ q. no-same (ap suc q))))

pub goes-back : (ns ms : List ℕ) (w k : ℕ) → ms ≡ one_more ns w → k < length ns → GoesUp ns ms w k
goes-back ns ms w k e lt = subst (λ (l : List ℕ). GoesUp ns l w k) (sym e) (went-up ns w k lt)

-- ---- zeros

pub long : (n : ℕ) → length {A = ℕ} (replicate n 0) ≡ n
long zero = refl
long (suc n) = ap suc (long n)

pub zeros : (ns : List ℕ) (count : ℕ) → length ns ≡ count → All (λ n. n ≡ 0) ns → ns ≡ replicate count 0
zeros [] zero e all = refl
zeros [] (suc count) e all = absurd (omega (arith, e))
zeros (n ∷ ns) zero e all = absurd (omega (arith, e))
zeros (n ∷ ns) (suc count) e all =
    let head : n ≡ 0 = All-head (λ m. m ≡ 0) n ns all in
    let rest : ns ≡ replicate count 0 = zeros ns count (omega (arith, e)) (All-tail (λ m. m ≡ 0) n ns all) in
    λ i. head i ∷ rest i

all-zeros : (count : ℕ) → All (λ (n : ℕ). n ≡ 0) (replicate count 0)
all-zeros zero = All-nil (λ n. n ≡ 0)
all-zeros (suc count) = All-cons (λ n. n ≡ 0) 0 (replicate count 0) refl (all-zeros count)

pub of-zeros : (ns : List ℕ) (count : ℕ) → ns ≡ replicate count 0 → All (λ n. n ≡ 0) ns
of-zeros ns count e = subst (All (λ n. n ≡ 0)) (sym e) (all-zeros count)

pub as-many : (ns : List ℕ) (count : ℕ) → ns ≡ replicate count 0 → length ns ≡ count
as-many ns count e = ap length e ∙ long count

-- ---- what is there

-- the value, where it is there
abbrev value-or : {A : Type 0} → A → Option A → A
value-or d (Some x) = x
value-or d None = d

pub of-there : {A : Type 0} (x y : A) → Some x ≡ Some y → x ≡ y
of-there x y e = ap (value-or x) e

abbrev is-there : {A : Type 0} → Option A → Bool
is-there (Some x) = true
is-there None = false

pub not-absent : {A : Type 0} {B : Type 0} (x : A) → Some x ≡ None → B
not-absent x e = absurd (false≢true (sym (ap is-there e)))

-- a test of two values is one of both where they are there
pub by-there : {A : Type 0} (x y : A) (r : Bool) → IsTrue r ↔ (x ≡ y) → IsTrue r ↔ (Some x ≡ Some y)
by-there x y r h = ((λ t i. Some (h.0 t i)), (λ e. h.1 (of-there x y e)))

-- ---- one number further

last-or : (a b : ℕ) → a < b + 1 → (a < b) ⊎ (a ≡ b)
last-or a b h = grind arith

pub one-further : (P : ℕ → Type 0) (k : ℕ) → ((j : ℕ) → j < k → P j) → P k → (j : ℕ) → j < k + 1 → P j
one-further P k all here j lt = by (last-or j k lt)
  where
    by : (j < k) ⊎ (j ≡ k) → P j
    by (inl less) = all j less
    by (inr e) = subst P (sym e) here

-- ---- maps

pub tally-is : (maps : List StackMap) (p : ℕ) → tally_in (slice_get maps p) ≡ tally_of (get_or maps p no_map)
tally-is [] p = refl
tally-is (m ∷ maps) zero = refl
tally-is (m ∷ maps) (suc p) = tally-is maps p
