use Rattle.std.proofs.Common.{take}
use Rattle.std.specs.List.{AllZip}
use Rattle.code_assembly.specs.Copies.{IsSameDef}
use Rattle.code_assembly.proofs.atoms.defs.Given as goal

abbrev pub invariant-loop-d : goal.invariant-loop-d
invariant-loop-d l = AllZip IsSameDef (take l.d-index l.defs) l.copies.items
