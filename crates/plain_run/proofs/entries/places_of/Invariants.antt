use Rattle.std.specs.Prelude.{take}
use Rattle.plain_run.specs.Entries.{ArePlaces}
use Rattle.plain_run.proofs.entries.places_of.Given as goal

abbrev pub invariant-loop-i : goal.invariant-loop-i
invariant-loop-i l = ArePlaces (take l.i l.items) l.places
