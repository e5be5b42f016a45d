use Rattle.std.specs.Prelude.{◌≡◌, ◌++◌, map, take}
use Rattle.plain_run.specs.Held.{heap_of, structure_of}
use Rattle.plain_copies.specs.Copied.{structures_copied}
use Rattle.plain_copies.proofs.copies.push_copies.Given as goal

abbrev pub invariant-loop-n : goal.invariant-loop-n
invariant-loop-n l = map structure_of l.copies.items ≡ map structure_of l.fn.copies.items ++ structures_copied l.fn.first l.fn.numbers l.fn.mutable (heap_of l.fn.heap) (take l.n-index l.fn.left)
