-- Lists in order that have the same members are the same.
use Rattle.std.proofs.Common.{◌≡◌, ◌⊎◌, zero, suc, List, [], ◌∷◌, refl, sym, ap, ◌∙◌, inl, inr, subst, arith, Ordering, Less, Greater}
use Rattle.std.specs.Prelude.{Contains}
use Rattle.std.specs.Cmp.{IsTotalOrder}
use Rattle.std.specs.List.{AllByRecursion}
use Rattle.std.specs.List.Sorted.{IsStrictlySortedBy}
use Rattle.std.specs.Ordering.{ordering_reverse}

pub contains-first : {X : Type 0} (x : X) (xs : List X) → Contains (x ∷ xs) x
contains-first x xs = (0, omega arith, refl)

pub contains-more : {X : Type 0} (x y : X) (xs : List X) → Contains xs y → Contains (x ∷ xs) y
contains-more x y xs (k, lt, e) = (suc k, omega arith, e)

pub contains-either : {X : Type 0} (x y : X) (xs : List X) → Contains (x ∷ xs) y → (x ≡ y) ⊎ Contains xs y
contains-either x y xs (zero, lt, e) = inl e
contains-either x y xs (suc k, lt, e) = inr (k, omega arith, e)

module _ {K : Type 0} (R : K → K → Ordering) (total : IsTotalOrder R) where
  pub not-both : (x y : K) → R x y ≡ Less → R y x ≡ Less → ⊥
  not-both x y p q = let back : Less ≡ Greater = sym p ∙ (total.antisymm x y ∙ ap ordering_reverse q) in cc back

  pub above : (x : K) (xs : List K) (y : K) → AllByRecursion (λ z. R x z ≡ Less) xs → Contains xs y → R x y ≡ Less
  above x [] y all (k, lt, e) = absurd (let no-way : ⊥ = omega arith in no-way)
  above x (z ∷ xs) y all (zero, lt, e) = subst (λ w. R x w ≡ Less) e all.0
  above x (z ∷ xs) y all (suc k, lt, e) = above x xs y all.1 (k, omega arith, e)

  -- the first ones are the same
  heads : (x y : K) (xs ys : List K) → AllByRecursion (λ z. R x z ≡ Less) xs → AllByRecursion (λ z. R y z ≡ Less) ys → Contains (y ∷ ys) x → Contains (x ∷ xs) y → x ≡ y
  heads x y xs ys low other at-y at-x = by (contains-either y x ys at-y) (contains-either x y xs at-x)
    where
      by : (y ≡ x) ⊎ Contains ys x → (x ≡ y) ⊎ Contains xs y → x ≡ y
      by (inl same) q = sym same
      by (inr in-ys) (inl same) = same
      by (inr in-ys) (inr in-xs) = absurd (not-both x y (above x xs y low in-xs) (above y ys x other in-ys))

  -- and the others have the same members
  tails : (x : K) (xs ys : List K) → AllByRecursion (λ z. R x z ≡ Less) xs → ((z : K) → Contains (x ∷ xs) z → Contains (x ∷ ys) z) → (z : K) → Contains xs z → Contains ys z
  tails x xs ys low gives z here = by (contains-either x z ys (gives z (contains-more x z xs here)))
    where
      by : (x ≡ z) ⊎ Contains ys z → Contains ys z
      by (inl same) = let less = subst (λ w. R x w ≡ Less) (sym same) (above x xs z low here) in absurd (not-both x x less less)
      by (inr there) = there

  pub sorted-one : (xs ys : List K) → IsStrictlySortedBy R xs → IsStrictlySortedBy R ys → ((z : K) → Contains xs z → Contains ys z) → ((z : K) → Contains ys z → Contains xs z) → xs ≡ ys
  unfolding IsStrictlySortedBy
  sorted-one [] [] p q there back = refl
  sorted-one [] (y ∷ ys) p q there back = let (k, lt, e) = back y (contains-first y ys) in absurd (let no-way : ⊥ = omega (arith, lt) in no-way)
  sorted-one (x ∷ xs) [] p q there back = let (k, lt, e) = there x (contains-first x xs) in absurd (let no-way : ⊥ = omega (arith, lt) in no-way)
  sorted-one (x ∷ xs) (y ∷ ys) p q there back =
      let same = heads x y xs ys p.0 q.0 (there x (contains-first x xs)) (back y (contains-first y ys)) in
      let rest = sorted-one xs ys p.1 q.1
      (tails x xs ys p.0 (λ z h. subst (λ w. Contains (w ∷ ys) z) (sym same) (there z h)))
      (tails y ys xs q.0 (λ z h. subst (λ w. Contains (w ∷ xs) z) same (back z h))) in
      λ i. same i ∷ rest i
