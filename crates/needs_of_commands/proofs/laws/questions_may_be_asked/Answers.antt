use Rattle.needs_of_commands.proofs.MayQuestions.{questions-asked}
use Rattle.needs_of_commands.proofs.laws.questions_may_be_asked.Goals as goal

pub returns : goal.returns
returns c = questions-asked
