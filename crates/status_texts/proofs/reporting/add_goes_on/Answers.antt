use Rattle.std.proofs.Common.{codes}
use Rattle.std.specs.Prelude.{decimal}
use Rattle.status_texts.proofs.Texts.{adds-three}
use Rattle.status_texts.proofs.reporting.add_goes_on.Goals as goal

pub returns : goal.returns
returns c = adds-three c.add_word-2.result _ _ _ _ (codes "goes on after ") (decimal c.args.ticks) (codes " ticks\n") c.in_ok-add_word.ensures c.in_ok-add_number.ensures c.add_word-2.ensures
