use Rattle.std.proofs.Common.{take}
use Rattle.name_resolution.specs.Definitions.{in_files}
use Rattle.type_builder.specs.Listing.{Lists}
use Rattle.type_builder.proofs.placed.Listing.files.Given as goal

abbrev pub invariant-loop-file : goal.invariant-loop-file
invariant-loop-file l = Lists (in_files l.«module» 0 (take l.file l.files)) l.initial.self l.self
