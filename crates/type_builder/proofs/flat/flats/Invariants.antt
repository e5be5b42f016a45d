use Rattle.std.proofs.Common.{take}
use Rattle.std.specs.List.{AllZip}
use Rattle.type_builder.specs.Flat.{IsFlatType}
use Rattle.type_builder.proofs.flat.flats.Given as goal

abbrev pub invariant-loop-t : goal.invariant-loop-t
invariant-loop-t l = AllZip IsFlatType (take l.t-index l.types) l.out.items
