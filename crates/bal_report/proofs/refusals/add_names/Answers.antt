use Rattle.std.proofs.Common.{codes, subst}
use Rattle.bal_report.specs.RefusalText.{name_text}
use Rattle.text_forms.specs.Forms.{Adds, written}
use Rattle.text_forms.proofs.Adding.{adds-joined_more}
use Rattle.bal_report.proofs.refusals.add_names.Goals as goal

pub loop-i-preserved : goal.loop-i-preserved
loop-i-preserved c =
    adds-joined_more name_text (codes " -> ") c.args.names.now c.loop-i.i c.index-names-i.result _ _ _ _ c.loop-i-test.true c.index-names-i.is c.loop-i.invariant c.in_ok-add_if.ensures
    (subst (λ t. Adds (written c.add_if.new.out) t (written c.add_text.new.out)) c.as_str.ensures.value c.in_ok-add_text.ensures)
