-- Chains of traps walked from the innermost one on.
use Rattle.std.proofs.Common.{◌≡◌, ◌∙◌, ◌≤◌, ◌<◌, ◌-◌, ◌++◌, ℕ, suc, List, [], ◌∷◌, Option, Some, None, All, Contains, ap, arith, refl, slice_get, subst, sym}
use Rattle.std.proofs.lemmas.List.Elements.{All-contains, All-nil, All-push}
use Rattle.code_numbers.specs.Traps.{IsChain}
use Rattle.needs_of_commands.specs.inner.Descending.{Descends}
use Rattle.needs_of_commands.proofs.Descent.{ended, size, smaller-by, unique}

nothing-behind : {A : Type 0} (xs : List A) → xs ++ [] ≡ xs
nothing-behind [] = refl
nothing-behind (x ∷ xs) = ap (λ l. x ∷ l) (nothing-behind xs)

seam : {A : Type 0} (xs : List A) (x : A) (ys : List A) → xs ++ x ∷ ys ≡ (xs ++ x ∷ []) ++ ys
seam [] x ys = refl
seam (z ∷ xs) x ys = ap (λ l. z ∷ l) (seam xs x ys)

there : (xs : List ℕ) (x : ℕ) (ys : List ℕ) → Contains (xs ++ x ∷ ys) x
there [] x ys = (0, omega arith, refl)
there (z ∷ xs) x ys = let (k, lt, is) = there xs x ys in (suc k, omega (arith, lt), is)

module _ (first : ℕ) (rows : List (Option ℕ)) where
  -- those up to the next one have the property, and these are left
  abbrev pub Walked : (ℕ → Type 0) → Option ℕ → Option ℕ → Type 0
  Walked P innermost next =
      (front : List ℕ) × (left : List ℕ) × All P front × IsChain first rows next left × ((ts : List ℕ) → IsChain first rows innermost ts → ts ≡ front ++ left)

  pub walked-none : (P : ℕ → Type 0) (innermost : Option ℕ) → (ts : List ℕ) × IsChain first rows innermost ts → Walked P innermost innermost
  walked-none P innermost (left, chain) = ([], left, All-nil P, chain, λ ts h. unique first rows innermost ts left h chain)

  module _ (P : ℕ → Type 0) (innermost next : Option ℕ) (walked : Walked P innermost next) where
    pub walked-more : (after : Option ℕ) (trap : ℕ) → next ≡ Some trap → P trap → ((o : Option ℕ) → slice_get rows (trap - first) ≡ Some o → after ≡ o) → Walked P innermost after
    walked-more after trap is p told = by walked
      where
        go : (front left : List ℕ) → All P front → IsChain first rows (Some trap) left → ((ts : List ℕ) → IsChain first rows innermost ts → ts ≡ front ++ left) → Walked P innermost after
        go front [] all chain whole = absurd chain
        go front (t ∷ more) all (e, le, (o, at, rest)) whole = (
          front ++ trap ∷ [],
          more,
          All-push P front trap all p,
          subst (λ (x : Option ℕ). IsChain first rows x more) (sym (told o at)) rest,
          λ ts h. whole ts h ∙ ap (λ (x : ℕ). front ++ x ∷ more) (sym e) ∙ seam front trap more,
        )

        by : Walked P innermost next → Walked P innermost after
        by (front, left, all, chain, whole) = go front left all (subst (λ (x : Option ℕ). IsChain first rows x left) is chain) whole

    -- the next one is among all
    pub among : (trap : ℕ) → next ≡ Some trap → (ts : List ℕ) → IsChain first rows innermost ts → Contains ts trap
    among trap is ts h = by walked
      where
        go : (front left : List ℕ) → IsChain first rows (Some trap) left → ts ≡ front ++ left → Contains ts trap
        go front [] chain e = absurd chain
        go front (t ∷ more) (same, le, rest) e =
            subst (λ (l : List ℕ). Contains l trap) (sym (e ∙ ap (λ (x : ℕ). front ++ x ∷ more) (sym same))) (there front trap more)

        by : Walked P innermost next → Contains ts trap
        by (front, left, all, chain, whole) = go front left (subst (λ (x : Option ℕ). IsChain first rows x left) is chain) (whole ts h)

    pub walked-all : ((x : ℕ) → next ≡ Some x → ⊥) → (ts : List ℕ) → IsChain first rows innermost ts → All P ts
    walked-all none ts h = by walked
      where
        go : (o : Option ℕ) → ((x : ℕ) → o ≡ Some x → ⊥) → (front left : List ℕ) → All P front → IsChain first rows o left → ts ≡ front ++ left → All P ts
        go (Some x) no-more front left all chain e = absurd (no-more x refl)
        go None no-more front left all chain e =
            subst (All P) (sym (e ∙ ap (λ (l : List ℕ). front ++ l) (ended first rows left chain) ∙ nothing-behind front)) all

        by : Walked P innermost next → All P ts
        by (front, left, all, chain, whole) = go next none front left all chain (whole ts h)

    pub walked-from : (trap : ℕ) → next ≡ Some trap → first ≤ trap
    walked-from trap is = by walked
      where
        go : (left : List ℕ) → IsChain first rows (Some trap) left → first ≤ trap
        go [] chain = absurd chain
        go (t ∷ more) (same, le, rest) = le

        by : Walked P innermost next → first ≤ trap
        by (front, left, all, chain, whole) = go left (subst (λ (x : Option ℕ). IsChain first rows x left) is chain)

    pub walked-smaller : (after : Option ℕ) (trap : ℕ) → next ≡ Some trap → Descends first rows → ((o : Option ℕ) → slice_get rows (trap - first) ≡ Some o → after ≡ o) → size first rows after < size first rows next
    walked-smaller after trap is d told = by walked
      where
        go : (left : List ℕ) → IsChain first rows (Some trap) left → size first rows after < size first rows next
        go [] chain = absurd chain
        go (t ∷ more) (same, le, (o, at, rest)) =
            subst (λ (x : Option ℕ). size first rows x < size first rows next) (sym (told o at)) (subst (λ (x : Option ℕ). size first rows o < size first rows x) (sym is) (smaller-by first rows trap o le d at))

        by : Walked P innermost next → size first rows after < size first rows next
        by (front, left, all, chain, whole) = go left (subst (λ (x : Option ℕ). IsChain first rows x left) is chain)

  -- one of them fails
  pub walked-fails : (P : ℕ → Type 0) (innermost next : Option ℕ) → Walked P innermost next → (trap : ℕ) → next ≡ Some trap → (P trap → ⊥) → (ts : List ℕ) → IsChain first rows innermost ts → All P ts → ⊥
  walked-fails P innermost next walked trap is bad ts h all = bad (All-contains P ts trap all (among P innermost next walked trap is ts h))
