use Rattle.std.proofs.Common.{◌∙◌}
use Rattle.text_forms.proofs.AsciiWords.{all-ascii}
use Rattle.bal_report.proofs.Words.{same-word}
use Rattle.bal_report.proofs.refusals.is_word.Goals as goal

pub returns : goal.returns
returns c =
    c.eq.ensures ∙ same-word c.as_str.result.now c.args.name.now c.args.word.now c.as_str.utf8 c.as_str.ensures.value (all-ascii c.args.word.now c.requires)
