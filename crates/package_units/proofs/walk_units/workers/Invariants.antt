use Rattle.std.proofs.Common.{◌≡◌, map, take}
use Rattle.typed_tree.specs.Listed.{run, joined}
use Rattle.typed_tree.specs.Units.{worker_units}
use Rattle.package_units.specs.Noted.{noted, noted_of}
use Rattle.package_units.proofs.walk_units.workers.Given as goal

abbrev pub invariant-loop-w : goal.invariant-loop-w
invariant-loop-w l = noted_of l.n ≡ run noted (joined (map worker_units (take l.w-index l.ws))) (noted_of l.fn.n)
