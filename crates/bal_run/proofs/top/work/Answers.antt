use Rattle.std.proofs.Common.{refl, subst}
use Rattle.std.specs.Prelude.{MatchOption}
use Rattle.command_words.specs.Commands.{IsCommand, NoCommand, request_of}
use Rattle.status_texts.specs.declared.status.Status.TheVariants.{Words}
use Rattle.bal_run.proofs.CommandFacts.{none-good}
use Rattle.bal_run.proofs.TopFacts.{bad-words, work-is}
use Rattle.bal_run.proofs.top.work.Goals as goal

pub returns-in-Ok-None-clause-due : goal.returns-in-Ok-None-clause-due
returns-in-Ok-None-clause-due g c =
    bad-words _ _ c.work_of.result c.args.words.now
    (none-good c.args.words.now (subst (λ o. MatchOption o (NoCommand c.args.words.now) (λ x. IsCommand c.args.words.now (request_of x))) c.in-Ok-None.field-0-is c.in-Ok-None.ensures.command))
    (work-is c.not_run.result Words c.work_of.result c.not_run.ensures c.work_of.ensures) refl (refl, refl) refl refl
