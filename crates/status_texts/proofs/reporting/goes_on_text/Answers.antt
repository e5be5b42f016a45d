use Rattle.text_forms.proofs.Adding.{adds-first}
use Rattle.status_texts.specs.Status.{goes_on_text}
use Rattle.status_texts.proofs.Texts.{bytes-written}
use Rattle.status_texts.proofs.reporting.goes_on_text.Goals as goal

pub returns : goal.returns
returns c =
    bytes-written c.add_goes_on.new.out (goes_on_text c.args.ticks) (adds-first c.new-out.result c.add_goes_on.new.out (goes_on_text c.args.ticks) c.new-out.ensures.bytes c.in_ok-add_goes_on.ensures)
