-- Modules that import one another in a cycle: the cycle that a refusal shows.
use Rattle.std.specs.Prelude.{◌≡◌, ◌<◌, ℕ, List, ◌∷◌, Option, None, Some}
use Rattle.graphs.specs.Cycles.{IsFirstCycle, IsOnCycle}

-- The least number that is on a cycle, and behind it the others of a shortest cycle that begins with it: of several the one whose
-- numbers come first. Modules are numbered by their names, so this is the one whose names come first.
pub record IsLeastCycle (next : List (List ℕ)) (first : ℕ) (others : List ℕ) : Type 0 where
  pub cycle : IsFirstCycle next first others
  pub least : (i : ℕ) → i < first → ¬ IsOnCycle next i

-- what a search for a cycle answers
abbrev pub IsCycleSought : List (List ℕ) → Option (List ℕ) → Type 0
IsCycleSought next None = (i : ℕ) → ¬ IsOnCycle next i
IsCycleSought next (Some cycle) = (first : ℕ) × (others : List ℕ) × (cycle ≡ first ∷ others) × IsLeastCycle next first others
