-- The numbers of a graph that were not come to, as the walk goes on.
use Rattle.std.proofs.Common.{◌≡◌, ◌≤◌, ◌<◌, ◌+◌, ◌*◌, ◌||◌, ℕ, zero, suc, Bool, true, false, cond, not, nat_eq, List, [], ◌∷◌, ◌++◌, length, ◌⊎◌, inl, inr, refl, sym, ap, ◌∙◌, add-one, zero-add, eq-eqb, arith}
use Rattle.std.specs.Prelude.{filter}
use Rattle.std.specs.List.{range_with_len}
use Rattle.std.proofs.lemmas.Bool.{eqb-true}
use Rattle.std.proofs.lemmas.List.{append_assoc}
use Rattle.std.proofs.lemmas.List.Elements.{filter-append}
use Rattle.std.proofs.lemmas.List.FromFn.{length-range_with_len}
use Rattle.std.proofs.lemmas.List.Folds.{list_any-append}
use Rattle.package_imports.specs.Order.{has, others}

abbrev pub open_at : List ℕ → ℕ → Bool
open_at seen i = not (has seen i)

-- ---- one more number

has-more : (seen : List ℕ) (n i : ℕ) → has (seen ++ n ∷ []) i ≡ (has seen i || (nat_eq n i || false))
has-more seen n i = list_any-append (λ j. nat_eq j i) seen (n ∷ [])

pub same-number : (n : ℕ) → nat_eq n n ≡ true
same-number n = eq-eqb n n refl

pub not-true : (b : Bool) → (b ≡ true → ⊥) → b ≡ false
not-true true f = absurd (f refl)
not-true false f = refl

other-number : (n i : ℕ) → (n ≡ i → ⊥) → nat_eq n i ≡ false
other-number n i h = not-true (nat_eq n i) (λ e. h (eqb-true n i e))

or-true : (a : Bool) → (a || (true || false)) ≡ true
or-true true = refl
or-true false = refl

or-false : (a : Bool) → (a || (false || false)) ≡ a
or-false true = refl
or-false false = refl

pub has-it : (seen : List ℕ) (n : ℕ) → has (seen ++ n ∷ []) n ≡ true
has-it seen n = has-more seen n n ∙ (ap (λ b. has seen n || (b || false)) (same-number n) ∙ or-true (has seen n))

has-other : (seen : List ℕ) (n i : ℕ) → (n ≡ i → ⊥) → has (seen ++ n ∷ []) i ≡ has seen i
has-other seen n i h = has-more seen n i ∙ (ap (λ b. has seen i || (b || false)) (other-number n i h) ∙ or-false (has seen i))

-- ---- how many are left

abbrev pub bit : Bool → ℕ
bit true = 1
bit false = 0

counted : (b : Bool) (x : ℕ) (xs : List ℕ) → length (cond b (x ∷ xs) xs) ≡ bit b + length xs
counted true x xs = omega arith
counted false x xs = omega arith

same-behind : (seen : List ℕ) (n a k : ℕ) → n < a → length (filter (open_at (seen ++ n ∷ [])) (range_with_len a k)) ≡ length (filter (open_at seen) (range_with_len a k))
same-behind seen n a zero h = refl
same-behind seen n a (suc k) h =
    let apart : n ≡ a → ⊥ = λ e. omega arith in
    let test : not (has (seen ++ n ∷ []) a) ≡ not (has seen a) = ap not (has-other seen n a apart) in
    let rest = same-behind seen n (a + 1) k (omega arith) in
    let now = counted (not (has (seen ++ n ∷ []) a)) a (filter (open_at (seen ++ n ∷ [])) (range_with_len (a + 1) k)) in
    let was = counted (not (has seen a)) a (filter (open_at seen) (range_with_len (a + 1) k)) in
    omega (arith, now, was, rest, ap bit test)

here-or-later : (a n : ℕ) → a ≤ n → (n ≡ a) ⊎ (a + 1 ≤ n)
here-or-later a n h = grind (arith, h)

one-fewer : (seen : List ℕ) (n a k : ℕ) → has seen n ≡ false → a ≤ n → n < a + k
    → length (filter (open_at (seen ++ n ∷ [])) (range_with_len a k)) + 1 ≡ length (filter (open_at seen) (range_with_len a k))
one-fewer seen n a zero new low high = absurd (omega arith)
one-fewer seen n a (suc k) new low high = by (here-or-later a n low) (λ more. one-fewer seen n (a + 1) k new more (omega arith))
  where
    by : (n ≡ a) ⊎ (a + 1 ≤ n)
        → (a + 1 ≤ n → length (filter (open_at (seen ++ n ∷ [])) (range_with_len (a + 1) k)) + 1 ≡ length (filter (open_at seen) (range_with_len (a + 1) k)))
        → length (filter (open_at (seen ++ n ∷ [])) (range_with_len a (suc k))) + 1 ≡ length (filter (open_at seen) (range_with_len a (suc k)))
    by (inl e) later =
        let closed : not (has (seen ++ n ∷ []) a) ≡ false = ap not (ap (has (seen ++ n ∷ [])) (sym e) ∙ has-it seen n) in
        let fresh : not (has seen a) ≡ true = ap not (ap (has seen) (sym e) ∙ new) in
        let rest = same-behind seen n (a + 1) k (omega arith) in
        let now = counted (not (has (seen ++ n ∷ []) a)) a (filter (open_at (seen ++ n ∷ [])) (range_with_len (a + 1) k)) in
        let was = counted (not (has seen a)) a (filter (open_at seen) (range_with_len (a + 1) k)) in
        omega (arith, now, was, rest, ap bit closed, ap bit fresh)
    by (inr more) later =
        let apart : n ≡ a → ⊥ = λ e. omega arith in
        let test : not (has (seen ++ n ∷ []) a) ≡ not (has seen a) = ap not (has-other seen n a apart) in
        let rest = later more in
        let now = counted (not (has (seen ++ n ∷ []) a)) a (filter (open_at (seen ++ n ∷ [])) (range_with_len (a + 1) k)) in
        let was = counted (not (has seen a)) a (filter (open_at seen) (range_with_len (a + 1) k)) in
        omega (arith, now, was, rest, ap bit test)

pub others-fewer : (count : ℕ) (seen : List ℕ) (n : ℕ) → has seen n ≡ false → n < count → length (others count (seen ++ n ∷ [])) + 1 ≡ length (others count seen)
others-fewer count seen n new in-it = one-fewer seen n 0 count new (omega arith) (omega arith)

-- at most all of them are left
bit-most : (b : Bool) → bit b ≤ 1
bit-most true = omega arith
bit-most false = omega arith

few : (p : ℕ → Bool) (xs : List ℕ) → length (filter p xs) ≤ length xs
few p [] = omega arith
few p (x ∷ xs) = let rest = few p xs in let here = counted (p x) x (filter p xs) in let most = bit-most (p x) in omega (arith, rest, here, most)

-- ---- a number behind others, in order

range-push : (a n : ℕ) → range_with_len a (suc n) ≡ range_with_len a n ++ (a + n) ∷ []
range-push a zero = let e : a ≡ a + 0 = omega arith in ap (λ i. i ∷ []) e
range-push a (suc n) = let e : a + 1 + n ≡ a + suc n = omega arith in ap (λ l. a ∷ l) (range-push (a + 1) n ∙ ap (λ i. range_with_len (a + 1) n ++ i ∷ []) e)

range-more : (a n : ℕ) → range_with_len a (n + 1) ≡ range_with_len a n ++ (a + n) ∷ []
range-more a n = rw add-one (range-push a n)

turned-if : (b : Bool) (xs ys : List ℕ) → cond (not b) xs ys ≡ cond b ys xs
turned-if true xs ys = refl
turned-if false xs ys = refl

others-more : (seen : List ℕ) (n : ℕ) → others (n + 1) seen ≡ others n seen ++ cond (has seen n) [] (n ∷ [])
others-more seen n =
    ap (filter (λ i. not (has seen i))) (range-more 0 n)
    ∙ (filter-append (λ i. not (has seen i)) (range_with_len 0 n) ((0 + n) ∷ [])
    ∙ (ap (λ m. others n seen ++ cond (not (has seen m)) (m ∷ []) []) (zero-add n) ∙ ap (λ l. others n seen ++ l) (turned-if (has seen n) (n ∷ []) [])))

pub closed-more : (first old new seen here : List ℕ) (n : ℕ) → old ≡ first ++ others n seen → here ≡ seen → new ≡ old ++ cond (has here n) [] (n ∷ []) → new ≡ first ++ others (n + 1) seen
closed-more first old new seen here n so same more =
    more
    ∙ ((λ i. so i ++ cond (has (same i) n) [] (n ∷ []))
    ∙ (append_assoc first (others n seen) (cond (has seen n) [] (n ∷ [])) ∙ ap (λ l. first ++ l) (sym (others-more seen n))))

-- where the first number was come to, all that is to go is twice the others and its step
pub first-few : (count : ℕ) → 0 < count → 2 * length (others count (0 ∷ [])) + 1 ≤ 2 * count
first-few count some =
    let fewer = others-fewer count [] 0 refl some in
    let most = few (λ i. not (has [] i)) (range_with_len 0 count) in
    let all = length-range_with_len 0 count in
    omega (arith, fewer, most, all)
