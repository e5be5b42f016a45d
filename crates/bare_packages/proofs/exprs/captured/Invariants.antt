use Rattle.std.proofs.Common.{take}
use Rattle.std.specs.List.{AllZip}
use Rattle.declared_reads.specs.Declared.{IsBareCapture}
use Rattle.bare_packages.proofs.exprs.captured.Given as goal

abbrev pub invariant-loop-c : goal.invariant-loop-c
invariant-loop-c l = AllZip IsBareCapture (take l.c-index l.cs) l.bare.items
