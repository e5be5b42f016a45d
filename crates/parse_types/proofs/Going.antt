-- Going on for as long as something smaller is left: one step, the end, and what it cannot do.
use Rattle.std.proofs.Common.{◌≡◌, ℕ, zero, suc, ◌<◌, ◌≤◌, Option, None, Some, refl, sym, ap, ◌∙◌, arith, inl, inr}
use Rattle.std.specs.Prelude.{nat_lt}
use Rattle.std.proofs.lemmas.Bool.{lt-ltb, ltb-true, cases_Bool}
use Rattle.parse_types.specs.Loops.{within, next, many}

module _ {S : Type 0} (size : S → ℕ) (step : S → Option S) where
  -- two ways to go on that agree on all that is smaller
  next-same : (f g : S → S) (s : S) (o : Option S) → ((t : S) → size t < size s → f t ≡ g t) → next size step f s o ≡ next size step g s o
  next-same f g s None h = refl
  next-same f g s (Some t) h =
      elim (cases_Bool (nat_lt (size t) (size s))) [
        | inl below ↦ rw below (h t (ltb-true (size t) (size s) below))
        | inr above ↦ rw above refl
      ]

  next-none : (f : S → S) (s : S) (o : Option S) → size s ≤ 0 → next size step f s o ≡ s
  next-none f s None h = refl
  next-none f s (Some t) h =
      elim (cases_Bool (nat_lt (size t) (size s))) [
        | inl below ↦ absurd (let lt = ltb-true (size t) (size s) below in omega arith)
        | inr above ↦ rw above refl
      ]

  within-same : (n m : ℕ) (s : S) → size s ≤ n → size s ≤ m → within size step n s ≡ within size step m s
  within-same zero zero s h k = refl
  within-same zero (suc m) s h k = sym (next-none (within size step m) s (step s) h)
  within-same (suc n) zero s h k = next-none (within size step n) s (step s) k
  within-same (suc n) (suc m) s h k = next-same (within size step n) (within size step m) s (step s) (λ t lt. within-same n m t (omega arith) (omega arith))

  -- nothing to go on with
  within-stops : (n : ℕ) (s : S) → step s ≡ None → within size step n s ≡ s
  within-stops zero s e = refl
  within-stops (suc n) s e = ap (next size step (within size step n) s) e

  pub many-stops : (s : S) → step s ≡ None → many size step s ≡ s
  unfolding many
  many-stops s e = within-stops (size s) s e

  -- one step, and then the rest
  within-goes : (n : ℕ) (s t : S) → step s ≡ Some t → size t < size s → size t < n → within size step n s ≡ within size step (size t) t
  within-goes zero s t e lt h = absurd (omega arith)
  within-goes (suc n) s t e lt h =
      ap (next size step (within size step n) s) e ∙ rw (lt-ltb (size t) (size s) lt) (within-same n (size t) t (omega arith) (omega arith))

  pub many-goes : (s t : S) → step s ≡ Some t → size t < size s → many size step s ≡ many size step t
  unfolding many
  many-goes s t e lt = within-goes (size s) s t e lt lt

  -- it leaves no more
  next-less : (f : S → S) (s : S) (o : Option S) → ((t : S) → size (f t) ≤ size t) → size (next size step f s o) ≤ size s
  next-less f s None h = omega arith
  next-less f s (Some t) h =
      elim (cases_Bool (nat_lt (size t) (size s))) [
        | inl below ↦ let lt = ltb-true (size t) (size s) below in let le = h t in rw below (omega arith)
        | inr above ↦ rw above (omega arith)
      ]

  within-less : (n : ℕ) (s : S) → size (within size step n s) ≤ size s
  within-less zero s = omega arith
  within-less (suc n) s = next-less (within size step n) s (step s) (within-less n)

  pub many-less : (s : S) → size (many size step s) ≤ size s
  unfolding many
  many-less s = within-less (size s) s
