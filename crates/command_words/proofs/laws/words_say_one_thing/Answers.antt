use Rattle.command_words.proofs.One.{command-one}
use Rattle.command_words.proofs.laws.words_say_one_thing.Goals as goal

pub returns : goal.returns
returns c = command-one
