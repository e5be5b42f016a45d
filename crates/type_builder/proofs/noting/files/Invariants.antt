use Rattle.std.proofs.Common.{take}
use Rattle.std.specs.List.{AllZip}
use Rattle.type_builder.specs.Building.{IsFile}
use Rattle.type_builder.proofs.noting.files.Given as goal

abbrev pub invariant-loop-file : goal.invariant-loop-file
invariant-loop-file l = AllZip (IsFile l.home) (take l.file-index l.files) l.out.items
