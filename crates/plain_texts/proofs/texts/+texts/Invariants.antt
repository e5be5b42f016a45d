use Rattle.std.proofs.Common.{◌+◌, ◌*◌, ◌++◌, take, codes, flat_map}
use Rattle.op_model.specs.Texts.{inner_text, quoted}
use Rattle.plain_run.specs.Held.{heap_of}
use Rattle.text_forms.specs.Forms.{Adds, listed, written}
use Rattle.plain_texts.proofs.texts.+texts.Given as goal

abbrev pub decreases-add_structure : goal.decreases-add_structure
decreases-add_structure l = l.depth * 8 + 3

abbrev pub decreases-add_error : goal.decreases-add_error
decreases-add_error l = l.depth * 8 + 3

abbrev pub decreases-add_inner : goal.decreases-add_inner
decreases-add_inner l = l.depth * 8 + 4

abbrev pub decreases-add_cause : goal.decreases-add_cause
decreases-add_cause l = l.depth * 8 + 4

abbrev pub decreases-add_entry : goal.decreases-add_entry
decreases-add_entry l = l.depth * 8 + 5

abbrev pub decreases-add_detail : goal.decreases-add_detail
decreases-add_detail l = l.depth * 8 + 5

abbrev pub decreases-add_items : goal.decreases-add_items
decreases-add_items l = l.depth * 8 + 5

abbrev pub decreases-add_entries : goal.decreases-add_entries
decreases-add_entries l = l.depth * 8 + 6

abbrev pub decreases-add_each_detail : goal.decreases-add_each_detail
decreases-add_each_detail l = l.depth * 8 + 6

abbrev pub decreases-add_members : goal.decreases-add_members
decreases-add_members l = l.depth * 8 + 7

abbrev pub decreases-add_details : goal.decreases-add_details
decreases-add_details l = l.depth * 8 + 7

abbrev pub decreases-add_members_of : goal.decreases-add_members_of
decreases-add_members_of l = l.depth * 8 + 8

abbrev pub decreases-add_parts : goal.decreases-add_parts
decreases-add_parts l = l.depth * 8 + 8

abbrev pub decreases-add_parts_of : goal.decreases-add_parts_of
decreases-add_parts_of l = l.depth * 8 + 9

abbrev pub invariant-add_items-loop-i : goal.invariant-add_items-loop-i
invariant-add_items-loop-i l = Adds (written l.initial.out) (listed (inner_text (heap_of l.heap) l.depth l.around) (take l.i l.items)) (written l.out)

abbrev pub invariant-add_entries-loop-i : goal.invariant-add_entries-loop-i
invariant-add_entries-loop-i l = Adds (written l.initial.out) (listed (λ e. quoted e.0 ++ codes ":" ++ inner_text (heap_of l.heap) l.depth l.around e.1) (take l.i l.entries)) (written l.out)

abbrev pub invariant-add_each_detail-loop-e : goal.invariant-add_each_detail-loop-e
invariant-add_each_detail-loop-e l = Adds (written l.initial.out) (flat_map (λ e. codes "," ++ e.0 ++ codes "=" ++ inner_text (heap_of l.heap) l.depth l.around e.1) (take l.e-index l.details)) (written l.out)
