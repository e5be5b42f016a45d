use Rattle.std.proofs.Common.{◌≡◌, map, take}
use Rattle.typed_tree.specs.Listed.{run, joined}
use Rattle.typed_tree.specs.Units.{function_units}
use Rattle.package_units.specs.Noted.{noted, noted_of}
use Rattle.package_units.proofs.walk_units.functions.Given as goal

abbrev pub invariant-loop-f : goal.invariant-loop-f
invariant-loop-f l = noted_of l.n ≡ run noted (joined (map function_units (take l.f-index l.fs))) (noted_of l.fn.n)
