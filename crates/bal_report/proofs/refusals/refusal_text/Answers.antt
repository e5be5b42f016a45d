use Rattle.bal_report.specs.RefusalText.{refusal_text}
use Rattle.text_forms.proofs.Adding.{adds-first}
use Rattle.bal_report.proofs.refusals.refusal_text.Goals as goal

pub returns : goal.returns
returns c = adds-first c.new-out.result c.add_refusal.new.out (refusal_text c.args.modules.now c.args.r.now) c.new-out.ensures.bytes c.in_ok-add_refusal.ensures
