use Rattle.std.proofs.Common.{take}
use Rattle.name_resolution.specs.Tables.{IsTableOf}
use Rattle.name_resolution.proofs.table.NameTable.of.Given as goal

abbrev pub invariant-loop-number : goal.invariant-loop-number
invariant-loop-number l = IsTableOf (take l.number l.outlines) l.table.numbers
