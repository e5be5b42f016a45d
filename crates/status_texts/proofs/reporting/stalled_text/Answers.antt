use Rattle.text_forms.proofs.Adding.{adds-first}
use Rattle.status_texts.specs.Status.{stalled_text}
use Rattle.status_texts.proofs.Texts.{bytes-written}
use Rattle.status_texts.proofs.reporting.stalled_text.Goals as goal

pub returns : goal.returns
returns c =
    bytes-written c.add_stalled.new.out (stalled_text c.args.ring.now) (adds-first c.new-out.result c.add_stalled.new.out (stalled_text c.args.ring.now) c.new-out.ensures.bytes c.in_ok-add_stalled.ensures)
