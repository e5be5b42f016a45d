use Rattle.std.proofs.Common.{◌∙◌}
use Rattle.op_model.specs.Texts.{text_of}
use Rattle.plain_run.proofs.Given.{if-ok}
use Rattle.plain_run.specs.Held.{heap_of}
use Rattle.text_forms.proofs.Adding.{adds-first}
use Rattle.plain_texts.proofs.texts.text_of.Goals as goal

pub returns : goal.returns
returns c =
    if-ok _ _ c.from_string.result (λ t h. h ∙ adds-first c.new-out.result c.add_value.new.out (text_of (heap_of c.args.heap.now) c.args.v.now) c.new-out.ensures.bytes c.in_ok-add_value.ensures)
    c.from_string.ensures
