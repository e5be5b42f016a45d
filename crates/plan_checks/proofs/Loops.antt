-- Loops over numbers that test each of them.
use Rattle.std.proofs.Common.{◌≡◌, ◌∙◌, ◌<◌, ◌≤◌, ◌⊎◌, ◌+◌, ◌↔◌, ℕ, Bool, true, false, IsTrue, refl, sym, subst, inl, inr, arith}
use Rattle.std.proofs.lemmas.Bool.{cases_lt, false≢true}

module _ (P : ℕ → Type 0) where
  -- all below this number
  abbrev pub Below : ℕ → Type 0
  Below n = (i : ℕ) → i < n → P i

  pub one-more : (n : ℕ) → Below n → P n → Below (n + 1)
  one-more n all here i lt = by (cases_lt i n)
    where
      by : (i < n) ⊎ (n ≤ i) → P i
      by (inl less) = all i less
      by (inr more) = let same : n ≡ i = omega (arith, lt, more) in subst P same here

  -- one that fails
  pub one-fails : (n : ℕ) (b : Bool) → (P n → IsTrue b) → b ≡ false → IsTrue false ↔ ((i : ℕ) → P i)
  one-fails n b passes fails = (λ h. absurd (false≢true h), λ all. absurd (false≢true (sym fails ∙ passes (all n))))

  -- all of them passed, as those from some number on do
  pub all-pass : (n end : ℕ) → end ≤ n → Below n → ((i : ℕ) → end ≤ i → P i) → IsTrue true ↔ ((i : ℕ) → P i)
  all-pass n end le all past = (λ h i. by i (cases_lt i n), λ h. refl)
    where
      by : (i : ℕ) → (i < n) ⊎ (n ≤ i) → P i
      by i (inl less) = all i less
      by i (inr more) = past i (omega (arith, more, le))
