-- Level by level: the order in which what belongs together is numbered.
use Rattle.std.specs.Prelude.{◌+◌, ◌++◌, ◌==◌, ℕ, zero, suc, Bool, List, [], ◌∷◌, flat_map, filter, not}

-- each element where it comes first
abbrev pub distinct : List ℕ → List ℕ
distinct [] = []
distinct (x ∷ xs) = x ∷ filter (λ y. not (y == x)) (distinct xs)

-- all where they come, twins too
abbrev pub all_of : {A : Type 0} → List A → List A
all_of xs = xs

-- first the roots, then their kids in the order of the roots, then the kids of these, for so many levels; `tidy` tells
-- which of those that come again count
abbrev pub levels : {A : Type 0} → (List A → List A) → (A → List A) → List A → ℕ → List A
levels tidy kids roots zero = []
levels tidy kids roots (suc n) = tidy (roots ++ flat_map kids (levels tidy kids roots n))

-- so many numbers, from this one on
abbrev pub numbers_from : ℕ → ℕ → List ℕ
numbers_from first zero = []
numbers_from first (suc n) = first ∷ numbers_from (first + 1) n
