use Rattle.std.specs.Prelude.{◌≡◌, ◌++◌, map, take}
use Rattle.op_model.specs.Copies.{mutable_numbers}
use Rattle.plain_run.specs.Held.{heap_of}
use Rattle.plain_copies.specs.Copied.{second}
use Rattle.plain_copies.proofs.reaching.push_mutable_entries.Given as goal

abbrev pub invariant-loop-entry : goal.invariant-loop-entry
invariant-loop-entry l = l.numbers.items ≡ l.fn.numbers.items ++ mutable_numbers (heap_of l.fn.heap) (map second (take l.entry-index l.fn.entries))
