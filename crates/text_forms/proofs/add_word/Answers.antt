use Rattle.std.proofs.Common.{refl}
use Rattle.text_forms.proofs.Adding.{adds-ascii}
use Rattle.text_forms.proofs.AsciiWords.{all-ascii}
use Rattle.text_forms.proofs.add_word.Goals as goal

pub returns : goal.returns
returns c = adds-ascii _ _ c.args.word.now c.args.word.now c.in_ok-add_text.ensures refl (all-ascii c.args.word.now c.requires)
