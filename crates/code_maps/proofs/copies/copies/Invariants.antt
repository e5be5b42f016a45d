use Rattle.std.proofs.Common.{map, take}
use Rattle.std.specs.List.{AllZip}
use Rattle.type_model.specs.SameType.{IsSameType}
use Rattle.map_traces.specs.Events.{type_of}
use Rattle.code_maps.proofs.copies.copies.Given as goal

abbrev pub invariant-loop-e : goal.invariant-loop-e
invariant-loop-e l = AllZip IsSameType (map type_of (take l.e-index l.entries)) l.types.items
