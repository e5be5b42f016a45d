use Rattle.std.proofs.Common.{take}
use Rattle.std.specs.List.{AllZip}
use Rattle.code_assembly.specs.Unit.{IsUnitOf}
use Rattle.code_assembly.proofs.units.units.Given as goal

abbrev pub invariant-loop-l : goal.invariant-loop-l
invariant-loop-l l = AllZip IsUnitOf (take l.l-index l.laid) l.units.items
