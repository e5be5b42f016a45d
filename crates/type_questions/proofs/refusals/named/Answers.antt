use Rattle.std.proofs.Common.{◌∙◌}
use Rattle.std.proofs.lemmas.Str.{chars-IsAscii}
use Rattle.text_forms.proofs.AsciiWords.{all-ascii}
use Rattle.type_questions.proofs.refusals.named.Goals as goal

pub returns : goal.returns
returns c = c.in_ok-new.ensures ∙ chars-IsAscii c.args.word.now (all-ascii c.args.word.now c.requires)
