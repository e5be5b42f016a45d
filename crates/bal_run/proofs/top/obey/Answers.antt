use Rattle.std.proofs.Common.{ap, refl}
use Rattle.command_words.specs.Commands as command
use Rattle.command_words.specs.Commands.{purpose_of}
use Rattle.bal_run.proofs.CommandFacts.{obeyed-as}
use Rattle.bal_run.proofs.QuestionEnds.{asked-so}
use Rattle.bal_run.proofs.TopFacts.{work-is}
use Rattle.bal_run.proofs.top.obey.Goals as goal

pub returns-in-Check-clause-due : goal.returns-in-Check-clause-due
returns-in-Check-clause-due g c = obeyed-as _ command.Check _ _ _ _ _ _ _ (ap purpose_of c.in-Check.is) (c.compile_and_tell.ensures.due _)

pub returns-in-Pairs-clause-due : goal.returns-in-Pairs-clause-due
returns-in-Pairs-clause-due g c = obeyed-as _ command.Pairs _ _ _ _ _ _ _ (ap purpose_of c.in-Pairs.is) (c.compile_and_tell-in-Pairs.ensures.due _)

pub returns-in-Code-clause-due : goal.returns-in-Code-clause-due
returns-in-Code-clause-due g c = obeyed-as _ command.Code _ _ _ _ _ _ _ (ap purpose_of c.in-Code.is) (c.compile_and_tell-in-Code.ensures.due _)

pub returns-in-Subtype-clause-due : goal.returns-in-Subtype-clause-due
returns-in-Subtype-clause-due g c =
    obeyed-as _ (command.Subtype c.in-Subtype.left.now c.in-Subtype.right.now) _ _ _ _ _ _ _ (ap purpose_of c.in-Subtype.is)
    (asked-so _ _ _ _ c.work_of.result c.ask.result (c.ask.ensures.ended _ _) (refl, refl) (work-is c.not_run.result c.ask.result c.work_of.result c.not_run.ensures c.work_of.ensures))
