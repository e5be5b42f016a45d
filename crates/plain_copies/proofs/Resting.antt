-- A level like the one before it is like all that come.
use Rattle.std.proofs.Common.{◌≡◌, ◌∙◌, ◌+◌, ◌-◌, ◌++◌, ◌≤◌, ℕ, zero, suc, List, flat_map, ap, arith}
use Rattle.op_model.specs.Levels.{levels}

module _ {A : Type 0} (tidy : List A → List A) (kids : A → List A) (roots xs : List A) (n : ℕ) (at : xs ≡ levels tidy kids roots n) (rest : xs ≡ tidy (roots ++ flat_map kids xs)) where
  more : (k m : ℕ) → k + n ≡ m → xs ≡ levels tidy kids roots m
  more zero m e = at ∙ ap (levels tidy kids roots) (omega (arith, e))
  more (suc k) zero e = absurd (omega (arith, e))
  more (suc k) (suc m) e = rest ∙ ap (λ ys. tidy (roots ++ flat_map kids ys)) (more k m (omega (arith, e)))

  pub levels-rest : (m : ℕ) → n ≤ m → xs ≡ levels tidy kids roots m
  levels-rest m le = more (m - n) m (omega (arith, le))
