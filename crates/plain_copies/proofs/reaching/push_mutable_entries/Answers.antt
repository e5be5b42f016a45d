use Rattle.std.proofs.Common.{◌∙◌, ◌++◌, ◌∷◌, [], ap, map, take}
use Rattle.std.specs.Prelude.{filter_map, option_to_list}
use Rattle.std.proofs.lemmas.List.{map-append}
use Rattle.op_model.specs.Copies.{mutable_number}
use Rattle.plain_run.specs.Held.{heap_of}
use Rattle.plain_copies.specs.Copied.{second}
use Rattle.plain_copies.proofs.Copying.{filter-one}
use Rattle.plain_copies.proofs.Turns.{item-more, joined-more}
use Rattle.plain_copies.proofs.reaching.push_mutable_entries.Goals as goal

pub loop-entry-preserved : goal.loop-entry-preserved
loop-entry-preserved c =
    let f = mutable_number (heap_of c.args.heap.now) in
    let done = take c.loop-entry.entry-index c.args.entries.now in
    let entry = c.entry-item.result in
    joined-more (filter_map f) (map second done) _ (second entry) (option_to_list (f (second entry))) c.args.numbers.now.items c.loop-entry.numbers.items _ (filter-one f (map second done) (second entry))
    (ap (map second) (item-more c.args.entries.now c.loop-entry.entry-index entry c.loop-entry-test.true c.entry-item.is) ∙ map-append second done (entry ∷ [])) c.loop-entry.invariant
    (c.in_ok-push_number.ensures ∙ ap (λ o. c.loop-entry.numbers.items ++ option_to_list o) c.mutable_number.ensures)
