use Rattle.command_words.proofs.Texts.{text-scalars}
use Rattle.command_words.proofs.mode.text_of.Goals as goal

pub returns-clause-text : goal.returns-clause-text
returns-clause-text c = text-scalars c.new.result c.args.word.now c.utf8.word c.new.ensures
