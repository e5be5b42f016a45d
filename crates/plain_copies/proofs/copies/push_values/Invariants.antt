use Rattle.std.specs.Prelude.{◌≡◌, ◌++◌, map, take}
use Rattle.op_model.specs.Copies.{copied_value}
use Rattle.plain_copies.proofs.copies.push_values.Given as goal

abbrev pub invariant-loop-v : goal.invariant-loop-v
invariant-loop-v l = l.copies.items ≡ l.fn.copies.items ++ map (copied_value l.fn.first l.fn.numbers) (take l.v-index l.fn.values)
