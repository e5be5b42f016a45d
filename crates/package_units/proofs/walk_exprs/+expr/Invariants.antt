use Rattle.std.proofs.Common.{◌≡◌, map, take}
use Rattle.typed_tree.specs.Listed.{run, joined}
use Rattle.typed_tree.specs.Units.{expr_units}
use Rattle.package_units.specs.Noted.{noted, noted_of}
use Rattle.package_units.proofs.walk_exprs.+expr.Given as goal

abbrev pub invariant-exprs-loop-e : goal.invariant-exprs-loop-e
invariant-exprs-loop-e l = noted_of l.n ≡ run noted (joined (map expr_units (take l.e-index l.es))) (noted_of l.fn.n)
