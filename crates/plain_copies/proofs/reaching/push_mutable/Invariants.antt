use Rattle.std.specs.Prelude.{◌≡◌, ◌++◌, take}
use Rattle.op_model.specs.Copies.{mutable_numbers}
use Rattle.plain_run.specs.Held.{heap_of}
use Rattle.plain_copies.proofs.reaching.push_mutable.Given as goal

abbrev pub invariant-loop-v : goal.invariant-loop-v
invariant-loop-v l = l.numbers.items ≡ l.fn.numbers.items ++ mutable_numbers (heap_of l.fn.heap) (take l.v-index l.fn.values)
