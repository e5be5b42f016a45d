use Rattle.std.specs.Prelude.{◌≡◌, ◌++◌, flat_map, take}
use Rattle.op_model.specs.Copies.{mutable_members}
use Rattle.plain_run.specs.Held.{heap_of}
use Rattle.plain_copies.proofs.reaching.push_all.Given as goal

abbrev pub invariant-loop-n : goal.invariant-loop-n
invariant-loop-n l = l.numbers.items ≡ l.fn.numbers.items ++ flat_map (mutable_members (heap_of l.fn.heap)) (take l.n-index l.fn.found)
