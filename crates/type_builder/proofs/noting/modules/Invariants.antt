use Rattle.std.proofs.Common.{take}
use Rattle.std.specs.List.{AllZip}
use Rattle.type_builder.specs.Building.{IsModule}
use Rattle.type_builder.specs.Passes.{AreEmpty}
use Rattle.type_builder.proofs.noting.modules.Given as goal

abbrev pub invariant-loop-module : goal.invariant-loop-module
invariant-loop-module l = AllZip (IsModule l.home) (take l.module-index l.modules) l.out.items × AreEmpty l.out.items
