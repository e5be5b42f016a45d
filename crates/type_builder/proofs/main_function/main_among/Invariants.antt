use Rattle.std.proofs.Common.{◌≡◌, drop}
use Rattle.type_builder.specs.MainFunction.{main_among}
use Rattle.type_builder.proofs.main_function.main_among.Given as goal

abbrev pub invariant-loop-def : goal.invariant-loop-def
invariant-loop-def l = main_among l.defs ≡ main_among (drop l.def-index l.defs)
