use Rattle.command_words.proofs.command.command_at.Goals as goal

pub returns-in_default-clause-asked : goal.returns-in_default-clause-asked
returns-in_default-clause-asked c = λ request h. c.in_default.ensures request.ticks h.ticks

pub returns-in_default-number_or-clause-asked : goal.returns-in_default-number_or-clause-asked
returns-in_default-number_or-clause-asked c = λ request h. c.in_default-number_or.ensures request.seed h.seed
