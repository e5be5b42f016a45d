use Rattle.std.proofs.Common.{◌≡◌, ◌++◌, take, map}
use Rattle.name_resolution.specs.Mentions.{sources}
use Rattle.name_resolution.specs.Outlines.{outline_of}
use Rattle.name_resolution.proofs.outlines.outlines_in_file.Given as goal

abbrev pub invariant-loop-def : goal.invariant-loop-def
invariant-loop-def l = l.out.items ≡ l.initial.out.items ++ map (outline_of l.reader.«module» (sources l.reader.file.now)) (take l.def-index l.file.tree.defs.items)
