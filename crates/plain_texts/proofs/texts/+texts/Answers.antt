use Rattle.std.proofs.Common.{◌≡◌, ◌∙◌, ◌++◌, Some, ap, codes, flat_map, length, refl, rules, subst, sym}
use Rattle.std.proofs.lemmas.Option.{slice_get_read}
use Rattle.std.specs.Prelude.{OnOk, slice_get}
use Rattle.op_model.specs.Texts.{details_text, inner_text, quoted}
use Rattle.plain_run.specs.Held.{heap_of}
use Rattle.text_forms.specs.Forms.{Adds, written}
use Rattle.text_forms.proofs.Adding.{adds-joined_more}
use Rattle.plain_texts.proofs.Inside.{details-entries}
use Rattle.plain_texts.proofs.texts.+texts.Goals as goal

pub add_items-loop-i-preserved : goal.add_items-loop-i-preserved
add_items-loop-i-preserved t c =
    adds-joined_more (inner_text (heap_of c.args.heap.now) c.args.depth c.args.around.now) (codes ",") c.args.items.now c.loop-i.i c.index-items-i.result _ _ _ _ c.loop-i-test.true c.index-items-i.is c.loop-i.invariant c.in_ok-add_if.ensures c.in_ok-add_inner.ensures

pub add_entries-loop-i-preserved : goal.add_entries-loop-i-preserved
add_entries-loop-i-preserved t c =
    adds-joined_more (λ e. quoted e.0 ++ codes ":" ++ inner_text (heap_of c.args.heap.now) c.args.depth c.args.around.now e.1) (codes ",") c.args.entries.now c.loop-i.i c.index-entries-i.result _ _ _ _ c.loop-i-test.true c.index-entries-i.is c.loop-i.invariant c.in_ok-add_if.ensures c.in_ok-add_entry.ensures

pub add_details-returns-in-Entries : goal.add_details-returns-in-Entries
add_details-returns-in-Entries t c =
    let there : slice_get c.args.heap.now.structures c.args.n ≡ Some c.in-Some.s.now = slice_get_read c.args.heap.now.structures (length c.args.heap.now.structures) c.args.n c.in-Some.s.now refl (search rules) (search rules) in
    let is : details_text (heap_of c.args.heap.now) (inner_text (heap_of c.args.heap.now) c.args.depth c.args.around.now) c.args.n ≡ flat_map (λ e. codes "," ++ e.0 ++ codes "=" ++ inner_text (heap_of c.args.heap.now) c.args.depth c.args.around.now e.1) c.as_slice.result.now = details-entries c.args.heap.now (inner_text (heap_of c.args.heap.now) c.args.depth c.args.around.now) c.args.n c.in-Some.s.now c.in-Entries.es there (search rules) ∙ ap (flat_map (λ e. codes "," ++ e.0 ++ codes "=" ++ inner_text (heap_of c.args.heap.now) c.args.depth c.args.around.now e.1)) (sym c.as_slice.ensures.value) in
    subst (λ text. OnOk c.add_each_detail.result (Adds (written c.args.out.now) text (written c.add_each_detail.new.out))) (sym is) c.add_each_detail.ensures
