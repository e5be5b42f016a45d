-- The first so many pairs of a list.
use Rattle.std.specs.Prelude.{ℕ, zero, suc, List, [], ◌∷◌}
use Rattle.type_model.specs.declared.basic.SemType.{SemType}

abbrev pub first_pairs : ℕ → List SemType → List (SemType × SemType)
first_pairs zero ts = []
first_pairs (suc n) (a ∷ b ∷ more) = (a, b) ∷ first_pairs n more
first_pairs (suc n) (a ∷ []) = []
first_pairs (suc n) [] = []
