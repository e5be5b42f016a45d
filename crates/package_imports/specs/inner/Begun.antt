-- Cycles that begin with a number.
use Rattle.std.specs.Prelude.{◌≡◌, ℕ, List, ◌∷◌, Option, None, Some}
use Rattle.graphs.specs.Cycles.{IsFirstCycle, IsOnCycle}

-- what a search for cycles that begin with a number answers: that number, and the others behind it
abbrev pub IsCycleBegun : List (List ℕ) → ℕ → Option (List ℕ) → Type 0
IsCycleBegun next first None = ¬ IsOnCycle next first
IsCycleBegun next first (Some cycle) = (others : List ℕ) × (cycle ≡ first ∷ others) × IsFirstCycle next first others
