use Rattle.std.proofs.Common.{◌≡◌, Some, map, take}
use Rattle.std.specs.Prelude.{option_map}
use Rattle.package_units.specs.Held.{tree_of}
use Rattle.package_units.proofs.walk_units.gathered.Given as goal

abbrev pub invariant-loop-unit : goal.invariant-loop-unit
invariant-loop-unit l = map (option_map tree_of) (take l.unit-index l.met) ≡ map Some (map tree_of l.units.items)
