-- A loop that keeps the members of a list that are chosen by number.
use Rattle.std.proofs.Common.{◌≡◌, ℕ, suc, ◌+◌, Bool, true, false, List, [], ◌∷◌, ◌++◌, map, refl, sym, ap, ◌∙◌, arith, cond}
use Rattle.std.specs.List.{enumerate_from}
use Rattle.name_resolution.specs.Excerpts.{picked}

module _ {X : Type 0} (chosen : ℕ → Bool) where
  -- of members with their numbers
  abbrev pub kept : List (ℕ × X) → List X
  kept [] = []
  kept ((n, x) ∷ ps) = cond (chosen n) (x ∷ kept ps) (kept ps)

  kept-push : (ps : List (ℕ × X)) (n : ℕ) (x : X) → kept (ps ++ (n, x) ∷ []) ≡ kept ps ++ cond (chosen n) (x ∷ []) []
  kept-push [] n x = refl
  kept-push ((m, y) ∷ ps) n x = by (chosen m) (kept-push ps n x)
    where
      by : (b : Bool) → kept (ps ++ (n, x) ∷ []) ≡ kept ps ++ cond (chosen n) (x ∷ []) []
          → cond b (y ∷ kept (ps ++ (n, x) ∷ [])) (kept (ps ++ (n, x) ∷ [])) ≡ cond b (y ∷ kept ps) (kept ps) ++ cond (chosen n) (x ∷ []) []
      by true e = ap (λ zs. y ∷ zs) e
      by false e = e

  pub one-kept : (ps : List (ℕ × X)) (n : ℕ) (x : X) (b : Bool) (old new : List X) → b ≡ chosen n → old ≡ kept ps → new ≡ old ++ cond b (x ∷ []) [] → new ≡ kept (ps ++ (n, x) ∷ [])
  one-kept ps n x b old new is before next = next ∙ ap (λ xs. xs ++ cond b (x ∷ []) []) before ∙ ap (λ c. kept ps ++ cond c (x ∷ []) []) is ∙ sym (kept-push ps n x)

  kept-all : (n : ℕ) (xs : List X) → kept (enumerate_from n xs) ≡ picked chosen n xs
  kept-all n [] = refl
  kept-all n (x ∷ xs) = by (chosen n) (let more : n + 1 ≡ suc n = omega arith in ap (λ k. kept (enumerate_from k xs)) more ∙ kept-all (suc n) xs)
    where
      by : (b : Bool) → kept (enumerate_from (n + 1) xs) ≡ picked chosen (suc n) xs → cond b (x ∷ kept (enumerate_from (n + 1) xs)) (kept (enumerate_from (n + 1) xs)) ≡ cond b (x ∷ picked chosen (suc n) xs) (picked chosen (suc n) xs)
      by true e = ap (λ zs. x ∷ zs) e
      by false e = e

  kept-same : (ps : List (ℕ × X)) → kept (map (λ p. (p.0, p.1)) ps) ≡ kept ps
  kept-same [] = refl
  kept-same ((n, x) ∷ ps) = by (chosen n) (kept-same ps)
    where
      by : (b : Bool) → kept (map (λ p. (p.0, p.1)) ps) ≡ kept ps → cond b (x ∷ kept (map (λ p. (p.0, p.1)) ps)) (kept (map (λ p. (p.0, p.1)) ps)) ≡ cond b (x ∷ kept ps) (kept ps)
      by true e = ap (λ zs. x ∷ zs) e
      by false e = e

  pub all-kept : (ps : List (ℕ × X)) (xs out : List X) → out ≡ kept ps → map (λ p. (p.0, p.1)) ps ≡ enumerate_from 0 xs → out ≡ picked chosen 0 xs
  all-kept ps xs out is all = is ∙ sym (kept-same ps) ∙ ap kept all ∙ kept-all 0 xs
