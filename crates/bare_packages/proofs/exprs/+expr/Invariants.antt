use Rattle.std.proofs.Common.{take}
use Rattle.std.specs.List.{AllZip}
use Rattle.declared_reads.specs.Declared.{IsBare}
use Rattle.bare_packages.proofs.exprs.+expr.Given as goal

abbrev pub invariant-all-loop-e : goal.invariant-all-loop-e
invariant-all-loop-e l = goal.unvisited-all-loop-e l × AllZip IsBare (take l.e-index l.fn.es) (take l.e-index l.es)
