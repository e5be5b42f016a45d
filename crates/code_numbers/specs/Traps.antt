-- The traps in whose reach the places of a unit are, as a table with a row for each place.
use Rattle.std.specs.Prelude.{◌≡◌, ◌≤◌, ◌<◌, ◌+◌, ◌-◌, ◌⊎◌, ℕ, List, [], ◌∷◌, Option, Some, None, length, slice_get, ⊤}
use Rattle.stack_code.specs.declared.code.Code.{Code}
use Rattle.stack_code.specs.Places.{traps_from}

-- these are the innermost trap, and then those that the row of its own place tells
abbrev pub IsChain : ℕ → List (Option ℕ) → Option ℕ → List ℕ → Type 0
IsChain first rows None [] = ⊤
IsChain first rows None (t ∷ ts) = ⊥
IsChain first rows (Some s) [] = ⊥
IsChain first rows (Some s) (t ∷ ts) = (s ≡ t) × (first ≤ s) × ((o : Option ℕ) × (slice_get rows (s - first) ≡ Some o) × IsChain first rows o ts)

-- there is a row for the place that comes so many behind the first one, and it tells the traps there
abbrev pub TellsTraps : Code → ℕ → List (Option ℕ) → ℕ → Type 0
TellsTraps code first rows k = (o : Option ℕ) × (ts : List ℕ) × (slice_get rows k ≡ Some o) × (traps_from code first k ≡ Some ts) × IsChain first rows o ts

-- rows for so many places and the one behind them; or up to the place where more traps are closed than were opened
abbrev pub AreTrapRows : Code → ℕ → ℕ → List (Option ℕ) → Type 0
AreTrapRows code first count rows =
    ((k : ℕ) → k < length rows → TellsTraps code first rows k)
    × ((length rows ≡ count + 1) ⊎ ((length rows ≤ count) × (traps_from code first (length rows) ≡ None)))
