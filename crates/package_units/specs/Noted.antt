-- The units that were met so far, by their numbers.
use Rattle.std.specs.Prelude.{◌≡◌, ℕ, Bool, true, false, List, Option, Some, None, map, option_map, replicate, slice_get, slice_set}
use Rattle.typed_tree.specs.declared.package.TypedPackage.{TypedPackage}
use Rattle.typed_tree.specs.Units.{UnitTree, units_of}
use Rattle.package_units.specs.declared.noted.Noted.{Noted as NotedUnits}
use Rattle.package_units.specs.Held.{tree_of}

pub record Noted : Type 0 where
  -- the unit with each number, where one was met
  pub units : List (Option UnitTree)
  -- each has one of the numbers, and none has that of another
  pub fits : Bool

-- it stands at its number, where no other one does
abbrev pub noted_at : UnitTree → Option (Option UnitTree) → Noted → Noted
noted_at u (Some None) n = record { units = slice_set n.units u.unit.number (Some u); fits = n.fits }
noted_at u (Some (Some v)) n = record { units = n.units; fits = false }
noted_at u None n = record { units = n.units; fits = false }

abbrev pub noted : UnitTree → Noted → Noted
noted u n = noted_at u (slice_get n.units u.unit.number) n

abbrev pub noted_of : NotedUnits → Noted
noted_of n = record { units = map (option_map tree_of) n.units.items; fits = n.fits }

-- none of so many was met yet
abbrev pub unmet : ℕ → Noted
unmet count = record { units = replicate count None; fits = true }

-- each unit of the package stands at its number
pub record AreAll (p : TypedPackage) (us : List UnitTree) : Type 0 where
  pub each : (k : ℕ) (u : UnitTree) → slice_get (units_of p) k ≡ Some u → slice_get us u.unit.number ≡ Some u
