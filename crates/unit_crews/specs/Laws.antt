-- What is known where units begin tells the units of the package and their workers.
use Rattle.std.specs.Prelude.{◌≡◌, ◌==◌, ℕ, find, map, option_map}
use Rattle.typed_tree.specs.declared.package.TypedPackage.{TypedPackage}
use Rattle.typed_tree.specs.Units.{unit_at}
use Rattle.tree_promises.specs.Placed.{placed_at, placed_units}
use Rattle.unit_crews.specs.Crews.{crewed, crewed_units}

abbrev pub PlacedUnitsAreCrewed : Type 0
PlacedUnitsAreCrewed = (p : TypedPackage) → map crewed (placed_units p) ≡ crewed_units p

-- the placed unit with a number is the unit with this number
abbrev pub PlacedUnitsAreUnits : Type 0
PlacedUnitsAreUnits = (p : TypedPackage) (n : ℕ) → option_map (λ u. u.tree) (placed_at p n) ≡ unit_at p n

-- with its workers
abbrev pub PlacedUnitsHaveCrews : Type 0
PlacedUnitsHaveCrews = (p : TypedPackage) (n : ℕ) → option_map crewed (placed_at p n) ≡ find (λ u. u.tree.unit.number == n) (crewed_units p)
