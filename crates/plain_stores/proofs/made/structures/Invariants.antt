use Rattle.std.specs.Prelude.{◌≡◌, ◌+◌, flat_map, length, map, take}
use Rattle.op_model.specs.Fillers.{filler_structures}
use Rattle.plain_run.specs.Held.{structure_of}
use Rattle.store_tests.specs.Fillers.{fixed_of}
use Rattle.plain_stores.specs.Changes.{kids}
use Rattle.plain_stores.proofs.made.structures.Given as goal

abbrev pub invariant-loop-f : goal.invariant-loop-f
invariant-loop-f l =
    (l.next ≡ l.fn.first + length (flat_map (kids l.fn.facts) (take l.f-index l.fn.fillers)))
    × (map structure_of l.made.items ≡ filler_structures (fixed_of l.fn.facts) l.fn.first (take l.f-index l.fn.fillers))
