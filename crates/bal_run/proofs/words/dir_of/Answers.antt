use Rattle.std.proofs.Common.{subst}
use Rattle.std.specs.Prelude.{MatchOption}
use Rattle.command_words.specs.Commands.{IsCommand, NoCommand, request_of}
use Rattle.bal_run.proofs.CommandFacts.{none-good}
use Rattle.bal_run.proofs.words.dir_of.Goals as goal

pub returns-in-None-clause-good : goal.returns-in-None-clause-good
returns-in-None-clause-good c = (
  λ e. absurd (let bad : ⊥ = cc in bad),
  λ good. absurd (none-good c.args.words.now (subst (λ o. MatchOption o (NoCommand c.args.words.now) (λ x. IsCommand c.args.words.now (request_of x))) c.in-None.is c.in_ok-command.ensures.command) good),
)
