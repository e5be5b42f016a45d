use Rattle.std.proofs.Common.{◌≡◌, ◌++◌, take}
use Rattle.std.specs.List.{flat_map}
use Rattle.name_resolution.specs.Outlines.{file_outlines}
use Rattle.name_resolution.proofs.outlines.module_outlines.Given as goal

abbrev pub invariant-loop-file : goal.invariant-loop-file
invariant-loop-file l = l.out.items ≡ l.initial.out.items ++ flat_map (λ file. file_outlines l.home l.number file.tree) (take l.file-index l.«module».files)
