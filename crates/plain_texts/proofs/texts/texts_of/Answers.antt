use Rattle.std.proofs.Common.{flat_map}
use Rattle.op_model.specs.Texts.{text_of}
use Rattle.plain_run.specs.Held.{heap_of}
use Rattle.text_forms.proofs.Adding.{adds-first}
use Rattle.plain_texts.proofs.texts.texts_of.Goals as goal

pub returns : goal.returns
returns c = adds-first c.new-out.result c.add_values.new.out (flat_map (text_of (heap_of c.args.heap.now)) c.args.values.now) c.new-out.ensures.bytes c.in_ok-add_values.ensures
