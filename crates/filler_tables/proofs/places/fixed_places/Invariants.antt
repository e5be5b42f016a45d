use Rattle.std.proofs.Common.{take}
use Rattle.std.specs.List.{AllZip}
use Rattle.filler_tables.specs.Asked.{IsPlaceOf}
use Rattle.filler_tables.proofs.places.fixed_places.Given as goal

abbrev pub invariant-loop-t : goal.invariant-loop-t
invariant-loop-t l = AllZip IsPlaceOf (take l.t-index l.fixed) l.places.items
