use Rattle.std.proofs.Common.{map, take}
use Rattle.name_resolution.specs.Definitions.{definitions_of}
use Rattle.type_builder.specs.Passes.{AreEntries, first_of}
use Rattle.type_builder.proofs.noting.first_names.Given as goal

abbrev pub invariant-loop-site : goal.invariant-loop-site
invariant-loop-site g l = AreEntries g.whole l.fn.own (map first_of (take l.site-index (definitions_of g.whole))) l.names
