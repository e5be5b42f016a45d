use Rattle.bal_report.specs.RefusalText.{refusal_text}
use Rattle.status_texts.proofs.Texts.{bytes-if}
use Rattle.status_texts.proofs.reporting.refused_text.Goals as goal

pub returns : goal.returns
returns c = bytes-if (refusal_text c.args.modules.now c.args.refusal.now) c.refusal_text.result c.refusal_text.ensures
