use Rattle.std.proofs.Common.{ℕ, Option, map, take}
use Rattle.std.specs.Prelude.{filter_map, option_map, slice_get}
use Rattle.std.proofs.lemmas.List.{take_more}
use Rattle.value_model.specs.Heap.{Structure}
use Rattle.op_model.specs.Copies.{copied_structure}
use Rattle.plain_run.specs.Held.{heap_of, structure_of}
use Rattle.plain_copies.proofs.Copying.{filter-one}
use Rattle.plain_copies.proofs.Turns.{joined-more}
use Rattle.plain_copies.proofs.copies.push_copies.Goals as goal

pub loop-n-preserved : goal.loop-n-preserved
loop-n-preserved c =
    let f : ℕ → Option Structure = λ n. option_map (copied_structure c.args.first c.args.numbers.now c.args.mutable) (slice_get (heap_of c.args.heap.now).structures n) in
    let done = take c.loop-n.n-index c.args.left.now in
    joined-more (filter_map f) done _ _ _ (map structure_of c.args.copies.now.items) (map structure_of c.loop-n.copies.items) _ (filter-one f done _)
    (take_more c.args.left.now c.loop-n.n-index 0 c.loop-n-test.true) c.loop-n.invariant c.in_ok-push_copy.ensures
