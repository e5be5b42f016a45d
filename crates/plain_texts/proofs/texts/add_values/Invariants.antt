use Rattle.std.proofs.Common.{flat_map, take}
use Rattle.op_model.specs.Texts.{text_of}
use Rattle.plain_run.specs.Held.{heap_of}
use Rattle.text_forms.specs.Forms.{Adds, written}
use Rattle.plain_texts.proofs.texts.add_values.Given as goal

abbrev pub invariant-loop-v : goal.invariant-loop-v
invariant-loop-v l = Adds (written l.initial.out) (flat_map (text_of (heap_of l.heap)) (take l.v-index l.values)) (written l.out)
