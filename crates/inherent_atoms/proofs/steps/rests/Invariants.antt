use Rattle.std.proofs.Common.{map, take}
use Rattle.package_units.specs.Held.{tree_of}
use Rattle.inherent_atoms.specs.Found.{Notes}
use Rattle.inherent_atoms.specs.Named.{rests_named}
use Rattle.inherent_atoms.proofs.steps.rests.Given as goal

abbrev pub invariant-loop-u : goal.invariant-loop-u
invariant-loop-u l = Notes (rests_named (map tree_of (take l.u-index l.units))) l.fn.found l.found
