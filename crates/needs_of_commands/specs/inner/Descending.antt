-- Rows of a table of traps in which each trap stands before the places in whose reach it is.
use Rattle.std.specs.Prelude.{◌≡◌, ◌<◌, ◌+◌, ℕ, List, Option, Some, slice_get}

abbrev pub Descends : ℕ → List (Option ℕ) → Type 0
Descends first rows = (k s : ℕ) → slice_get rows k ≡ Some (Some s) → s < first + k
