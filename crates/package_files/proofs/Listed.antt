-- One more file behind those that were listed.
use Rattle.std.proofs.Common.{◌≡◌, ◌<◌, ℕ, zero, suc, List, [], ◌∷◌, ◌++◌, length, Option, Some, None, ◌⊎◌, inl, inr, refl, sym, ap, arith}
use Rattle.std.specs.Prelude.{slice_get}
use Rattle.std.proofs.lemmas.Option.{same_Some}
use Rattle.package_files.specs.Listings.{IsFirst, IsFirstOf, IsListed}

module _ {X : Type 0} where
  pub front : (xs : List X) (x : X) (i : ℕ) (y : X) → slice_get xs i ≡ Some y → slice_get (xs ++ x ∷ []) i ≡ Some y
  front [] x i y e = cc
  front (z ∷ xs) x zero y e = e
  front (z ∷ xs) x (suc i) y e = front xs x i y e

  pub last : (xs : List X) (x : X) → slice_get (xs ++ x ∷ []) (length xs) ≡ Some x
  last [] x = refl
  last (z ∷ xs) x = last xs x

  pub below : (xs : List X) (i : ℕ) (y : X) → slice_get xs i ≡ Some y → i < length xs
  below [] i y e = cc
  below (z ∷ xs) zero y e = omega arith
  below (z ∷ xs) (suc i) y e = let b = below xs i y e in omega arith

  pub split : (xs : List X) (x : X) (i : ℕ) (y : X) → slice_get (xs ++ x ∷ []) i ≡ Some y → (slice_get xs i ≡ Some y) ⊎ ((i ≡ length xs) × (y ≡ x))
  split [] x zero y e = inr (refl, sym (same_Some _ _ e))
  split [] x (suc i) y e = cc
  split (z ∷ xs) x zero y e = inl e
  split (z ∷ xs) x (suc i) y e = elim (split xs x i y e) [ inl h ↦ inl h | inr h ↦ inr (ap suc h.0, h.1) ]

module _ (names : List (List ℕ)) (name : List ℕ) where
  pub listed-more : (q : List ℕ) → IsListed names q → IsListed (names ++ name ∷ []) q
  listed-more q h = (h.0, front names name h.0 q h.1)

  pub listed-split : (q : List ℕ) → IsListed (names ++ name ∷ []) q → IsListed names q ⊎ (q ≡ name)
  listed-split q h = elim (split names name h.0 q h.1) [ inl e ↦ inl (h.0, e) | inr e ↦ inr e.1 ]

  pub first-more : (q : List ℕ) (k : ℕ) → IsFirst names q k → IsFirst (names ++ name ∷ []) q k
  first-more q k h = (
    front names name k q h.0,
    λ other lt e. elim (split names name other q e) [
      | inl old ↦ h.1 other lt old
      | inr new ↦ let b = below names k q h.0 in let at : other ≡ length names = new.0 in absurd (lt-not other k (length names) lt b at)
    ],
  ) where
    lt-not : (other k n : ℕ) → other < k → k < n → other ≡ n → ⊥
    lt-not other k n a b e = omega arith

  pub first-last : ¬ (IsListed names name) → IsFirst (names ++ name ∷ []) name (length names)
  first-last absent = (
    last names name,
    λ other lt e. elim (split names name other name e) [
      | inl old ↦ absent (other, old)
      | inr new ↦ below-not other (length names) lt new.0
    ],
  ) where
    below-not : (other n : ℕ) → other < n → other ≡ n → ⊥
    below-not other n a e = omega arith

  pub none-more : (q : List ℕ) → (q ≡ name → ⊥) → ¬ (IsListed names q) → ¬ (IsListed (names ++ name ∷ []) q)
  none-more q other absent h = elim (listed-split q h) [ inl old ↦ absent old | inr new ↦ other new ]

  pub first_of-more : (q : List ℕ) (k : Option ℕ) → (q ≡ name → ⊥) → IsFirstOf names q k → IsFirstOf (names ++ name ∷ []) q k
  first_of-more q (Some k) other h = first-more q k h
  first_of-more q None other h = none-more q other h
