use Rattle.command_words.specs.Commands as command
use Rattle.folder_programs.specs.declared.texts.Telling.TheVariants.{Accepted, Pairs, Code}
use Rattle.folder_programs.specs.Packages.{source_modules}
use Rattle.bal_run.proofs.DueStatus.{asked-for, due-again}
use Rattle.bal_run.proofs.QuestionFacts.{question-told}
use Rattle.bal_run.proofs.Diagnostics.{diagnostics-told}
use Rattle.status_texts.proofs.ReportFacts.{told-of}
use Rattle.bal_run.proofs.RunFacts.{run-told}
use Rattle.bal_run.proofs.TextFacts.{text-told}
use Rattle.bal_run.proofs.TopFacts.{input-told, shown-so, words-told}
use Rattle.bal_run.proofs.top.bal_run.Goals as goal

pub returns-clause-answer : goal.returns-clause-answer
returns-clause-answer g c =
    (c.work-run.result.run.status, source_modules c.work-run.result.source, due-again _ _ _ _ _ _ c.work-run.ensures.due c.report-status.result, told-of _ _ _ _ _ _ c.modules_of.ensures c.report-status.ensures)

pub returns-clause-words : goal.returns-clause-words
returns-clause-words g c =
    words-told _ _ _ _ _ _ (due-again _ _ _ _ _ _ c.work-run.ensures.due c.report-status.result) _ _ (told-of _ _ _ _ _ _ c.modules_of.ensures c.report-status.ensures)

pub returns-clause-run : goal.returns-clause-run
returns-clause-run g c = λ texts ticks seed asks.
    run-told texts ticks seed _ _ _ _ _ (asked-for _ _ _ _ _ _ (due-again _ _ _ _ _ _ c.work-run.ensures.due c.report-status.result) _ ticks seed asks) _ _ (told-of _ _ _ _ _ _ c.modules_of.ensures c.report-status.ensures)

pub returns-clause-check : goal.returns-clause-check
returns-clause-check g c = λ ticks seed asks.
    text-told Accepted _ _ _ _ _ (asked-for _ _ _ _ _ _ (due-again _ _ _ _ _ _ c.work-run.ensures.due c.report-status.result) command.Check ticks seed asks) _ _ (told-of _ _ _ _ _ _ c.modules_of.ensures c.report-status.ensures)

pub returns-clause-pairs : goal.returns-clause-pairs
returns-clause-pairs g c = λ ticks seed asks.
    text-told Pairs _ _ _ _ _ (asked-for _ _ _ _ _ _ (due-again _ _ _ _ _ _ c.work-run.ensures.due c.report-status.result) command.Pairs ticks seed asks) _ _ (told-of _ _ _ _ _ _ c.modules_of.ensures c.report-status.ensures)

pub returns-clause-code : goal.returns-clause-code
returns-clause-code g c = λ ticks seed asks.
    text-told Code _ _ _ _ _ (asked-for _ _ _ _ _ _ (due-again _ _ _ _ _ _ c.work-run.ensures.due c.report-status.result) command.Code ticks seed asks) _ _ (told-of _ _ _ _ _ _ c.modules_of.ensures c.report-status.ensures)

pub returns-clause-subtype : goal.returns-clause-subtype
returns-clause-subtype g c = λ s t ticks seed asks.
    question-told s t _ _ _ _ _ (asked-for _ _ _ _ _ _ (due-again _ _ _ _ _ _ c.work-run.ensures.due c.report-status.result) _ ticks seed asks) _ _ (told-of _ _ _ _ _ _ c.modules_of.ensures c.report-status.ensures)

pub returns-clause-diag : goal.returns-clause-diag
returns-clause-diag g c =
    diagnostics-told _ _ _ _ _ (told-of _ _ _ _ _ _ c.modules_of.ensures c.report-status.ensures) _ _ (shown-so _ _ _ _ _ _ c.work-run.ensures.due)

pub returns-clause-input : goal.returns-clause-input
returns-clause-input g c = input-told _ _ _ _ _ _ (due-again _ _ _ _ _ _ c.work-run.ensures.due c.report-status.result)
