use Rattle.std.proofs.Common.{take}
use Rattle.std.specs.List.{AllZip}
use Rattle.code_assembly.specs.Copies.{IsSameField}
use Rattle.code_assembly.proofs.atoms.fields.Given as goal

abbrev pub invariant-loop-f : goal.invariant-loop-f
invariant-loop-f l = AllZip IsSameField (take l.f-index l.fs) l.copies.items
