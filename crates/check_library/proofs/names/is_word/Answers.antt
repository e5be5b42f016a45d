use Rattle.std.proofs.Common.{◌∙◌}
use Rattle.text_forms.proofs.AsciiWords.{all-ascii}
use Rattle.check_library.proofs.CallRows.{turned-word}
use Rattle.check_library.proofs.names.is_word.Goals as goal

pub returns : goal.returns
returns c =
    c.eq.ensures ∙ turned-word c.as_str.result.now c.args.name.now c.args.word.now c.as_str.utf8 c.as_str.ensures.value (all-ascii c.args.word.now c.requires)
