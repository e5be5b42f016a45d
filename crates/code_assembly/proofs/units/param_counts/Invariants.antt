use Rattle.std.proofs.Common.{◌≡◌, map, take}
use Rattle.code_assembly.specs.Unit.{params_in}
use Rattle.code_assembly.proofs.units.param_counts.Given as goal

abbrev pub invariant-loop-l : goal.invariant-loop-l
invariant-loop-l l = l.counts.items ≡ map params_in (take l.l-index l.laid)
