use Rattle.std.proofs.Common.{◌∙◌, ◌++◌, ap, take}
use Rattle.std.specs.Prelude.{filter_map, option_to_list}
use Rattle.op_model.specs.Copies.{mutable_number}
use Rattle.plain_run.specs.Held.{heap_of}
use Rattle.plain_copies.proofs.Copying.{filter-one}
use Rattle.plain_copies.proofs.Turns.{item-more, joined-more}
use Rattle.plain_copies.proofs.reaching.push_mutable.Goals as goal

pub loop-v-preserved : goal.loop-v-preserved
loop-v-preserved c =
    let f = mutable_number (heap_of c.args.heap.now) in
    let done = take c.loop-v.v-index c.args.values.now in
    let v = c.v-item.result in
    joined-more (filter_map f) done _ v (option_to_list (f v)) c.args.numbers.now.items c.loop-v.numbers.items _ (filter-one f done v)
    (item-more c.args.values.now c.loop-v.v-index v c.loop-v-test.true c.v-item.is) c.loop-v.invariant
    (c.in_ok-push_number.ensures ∙ ap (λ o. c.loop-v.numbers.items ++ option_to_list o) c.mutable_number.ensures)
