use Rattle.std.proofs.Common.{◌≡◌, map, take}
use Rattle.typed_tree.specs.Listed.{run, joined}
use Rattle.typed_tree.specs.Units.{initial_units}
use Rattle.package_units.specs.Noted.{noted, noted_of}
use Rattle.package_units.proofs.walk_units.initials.Given as goal

abbrev pub invariant-loop-i : goal.invariant-loop-i
invariant-loop-i l = noted_of l.n ≡ run noted (joined (map initial_units (take l.i-index l.is))) (noted_of l.fn.n)
