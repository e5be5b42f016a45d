use Rattle.std.proofs.Common.{◌≡◌, length, take}
use Rattle.std.specs.List.{AllZip}
use Rattle.code_assembly.specs.Copies.{IsCopy}
use Rattle.code_assembly.proofs.units.types.Given as goal

abbrev pub invariant-loop-t : goal.invariant-loop-t
invariant-loop-t l = AllZip IsCopy (take l.t-index l.slots) l.types.items × (length l.types.items ≡ l.t-index)
