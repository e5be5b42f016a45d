use Rattle.command_words.proofs.Cases.{cases}
use Rattle.command_words.proofs.laws.words_of_cases.Goals as goal

pub returns : goal.returns
returns c = cases
