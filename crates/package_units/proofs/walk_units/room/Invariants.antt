use Rattle.std.proofs.Common.{◌≡◌, None, map, replicate}
use Rattle.std.specs.Prelude.{option_map}
use Rattle.package_units.specs.Held.{tree_of}
use Rattle.package_units.proofs.walk_units.room.Given as goal

abbrev pub invariant-loop : goal.invariant-loop
invariant-loop l = map (option_map tree_of) l.units.items ≡ replicate l.counter None
