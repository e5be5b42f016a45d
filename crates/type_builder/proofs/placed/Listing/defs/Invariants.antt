use Rattle.std.proofs.Common.{map, take}
use Rattle.name_resolution.specs.Definitions.{placed}
use Rattle.type_builder.specs.Listing.{Lists}
use Rattle.type_builder.proofs.placed.Listing.defs.Given as goal

abbrev pub invariant-loop-def : goal.invariant-loop-def
invariant-loop-def l = Lists (map (placed l.«module» l.file) (take l.def-index l.defs)) l.initial.self l.self
