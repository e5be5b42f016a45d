use Rattle.std.proofs.Common.{take}
use Rattle.std.specs.List.{AllZip}
use Rattle.code_assembly.specs.Copies.{IsSameTy}
use Rattle.code_assembly.proofs.atoms.tys.Given as goal

abbrev pub invariant-loop-t : goal.invariant-loop-t
invariant-loop-t l = AllZip IsSameTy (take l.t-index l.ts) l.copies.items
