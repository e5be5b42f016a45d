-- The default module in the order of modules, and how many modules there are.
use Rattle.std.proofs.Common.{◌≡◌, ◌≤◌, ◌<◌, ◌+◌, ◌||◌, ℕ, suc, Bool, true, false, cond, not, List, [], ◌∷◌, get_or, length, nat_eq, refl, sym, ap, ◌∙◌, eq-eqb, arith}
use Rattle.std.specs.Prelude.{Some, None, position, slice_get}
use Rattle.std.specs.List.{AllByRecursion, IsDistinct, list_any, position_or_len, prefix_len}
use Rattle.std.proofs.lemmas.Bool.{eqb-true}
use Rattle.std.proofs.lemmas.List.Quantifiers.{position-Some}
use Rattle.std.proofs.lemmas.Map.Steps.{length-le_from_distinct_below}
use Rattle.std.proofs.lemmas.Option.{slice_get-get_or}
use Rattle.std.proofs.lemmas.Grind.{common_steps}
use Rattle.package_imports.specs.Order.{IsOnce, has}
use Rattle.module_loader.specs.inner.Linked.{IsOrderOfFew}

pub true-false : true ≡ false → ⊥
true-false e = cc

-- ---- as many as there are

flipped-true : (a b : ℕ) → nat_eq a b ≡ true → nat_eq b a ≡ true
flipped-true a b e = eq-eqb b a (sym (eqb-true a b e))

flipped-false : (a b : ℕ) → nat_eq a b ≡ false → nat_eq b a ≡ false
flipped-false a b e = by (nat_eq b a) refl
  where
    by : (t : Bool) → nat_eq b a ≡ t → t ≡ false
    by true q = absurd (true-false (sym (flipped-true b a q) ∙ e))
    by false q = refl

none-same : (i : ℕ) (xs : List ℕ) → has xs i ≡ false → AllByRecursion (λ y. nat_eq i y ≡ false) xs
none-same i [] e = tt
none-same i (x ∷ xs) e = by (nat_eq x i) refl (none-same i xs) e
  where
    by : (t : Bool) → nat_eq x i ≡ t → (has xs i ≡ false → AllByRecursion (λ y. nat_eq i y ≡ false) xs) → (t || has xs i) ≡ false → AllByRecursion (λ y. nat_eq i y ≡ false) (x ∷ xs)
    by true q rest e = absurd (true-false e)
    by false q rest e = (flipped-false x i q, rest e)

distinct : (xs : List ℕ) → IsOnce xs → IsDistinct nat_eq xs
unfolding IsDistinct
distinct [] once = tt
distinct (x ∷ xs) once = (none-same x xs once.0, distinct xs once.1)

among : (q : ℕ) (xs : List ℕ) → list_any (nat_eq q) xs ≡ true → has xs q ≡ true
among q [] e = e
among q (x ∷ xs) e = by (nat_eq q x) refl (among q xs) e
  where
    by : (t : Bool) → nat_eq q x ≡ t → (list_any (nat_eq q) xs ≡ true → has xs q ≡ true) → (t || list_any (nat_eq q) xs) ≡ true → (nat_eq x q || has xs q) ≡ true
    by true p rest e = ap (λ b. b || has xs q) (flipped-true q x p)
    by false p rest e = ap (λ b. b || has xs q) (flipped-false q x p) ∙ rest e

pub few-modules : (order : List ℕ) → IsOrderOfFew order → length order ≤ 64
few-modules order (count, each, some, few) =
    let short = length-le_from_distinct_below order count (distinct order each.once) (λ q e. each.inside q (among q order e)) in
    omega arith

-- ---- the default one

pub none-passes : (p : ℕ → Bool) (xs : List ℕ) → length xs ≤ prefix_len (λ x. not (p x)) xs → list_any p xs ≡ false
none-passes p [] long = refl
none-passes p (x ∷ xs) long = by (p x) (none-passes p xs) long
  where
    by : (t : Bool) → (length xs ≤ prefix_len (λ y. not (p y)) xs → list_any p xs ≡ false) → suc (length xs) ≤ cond (not t) (1 + prefix_len (λ y. not (p y)) xs) 0 → (t || list_any p xs) ≡ false
    by true rest long = absurd (let no-way : ⊥ = omega arith in no-way)
    by false rest long = rest (omega arith)

pub position-none : (p : ℕ → Bool) (xs : List ℕ) → position p xs ≡ None → length xs ≤ position_or_len p xs
position-none p xs e = grind (arith, common_steps)

pub default-none : (order : List ℕ) → IsOrderOfFew order → position (λ n. nat_eq n 0) order ≡ None → ⊥
default-none order (count, each, some, few) none =
    true-false (sym (each.all 0 some) ∙ none-passes (λ n. nat_eq n 0) order (position-none (λ n. nat_eq n 0) order none))

pub default-at : (order : List ℕ) (place : ℕ) → position (λ n. nat_eq n 0) order ≡ Some place → (place < length order) × (slice_get order place ≡ Some 0)
default-at order place e =
    let at = position-Some (λ n. nat_eq n 0) order place 0 e in
    (at.0, slice_get-get_or order place 0 at.0 ∙ ap Some (eqb-true (get_or order place 0) 0 at.1))
