-- A place of a unit whose traps are told by rows.
use Rattle.std.specs.Prelude.{◌≤◌, ◌-◌, ℕ, List, Option}
use Rattle.code_numbers.specs.Traps.{AreTrapRows}
use Rattle.needs_of_places.specs.declared.site.Site.{Site}

-- the rows are those of the site's unit
abbrev pub AreRowsOf : Site → List (Option ℕ) → Type 0
AreRowsOf site rows = AreTrapRows site.code.now site.unit.now.first (site.unit.now.end - site.unit.now.first) rows

-- the place is one of the unit, or the one behind it
abbrev pub IsRowed : Site → ℕ → Type 0
IsRowed site p = (site.unit.now.first ≤ p) × (p ≤ site.unit.now.end)
