use Rattle.folder_programs.proofs.PackageFacts.{unanswered-counts, unanswered-so}
use Rattle.folder_programs.proofs.QuestionAnswers.{loaded-answers, loaded-counts}
use Rattle.folder_programs.proofs.question.answer.Goals as goal

pub returns-in-Ok-clause-faults : goal.returns-in-Ok-clause-faults
returns-in-Ok-clause-faults g c = loaded-counts _ _ c.package_answer.result c.loaded.result c.in-Ok.ensures.faults c.loaded.ensures

pub returns-in-Ok-clause-answers : goal.returns-in-Ok-clause-answers
returns-in-Ok-clause-answers g c =
    loaded-answers (g.F.Folder.files c.args.folder.now) c.in-Ok.«package» c.args.s.now c.args.t.now c.package_answer.result c.loaded.result
    c.in-Ok.ensures.loaded c.package_answer.ensures c.loaded.ensures

pub returns-in-Err-clause-faults : goal.returns-in-Err-clause-faults
returns-in-Err-clause-faults g c = unanswered-counts _ _ c.in-Err.stop c.in-Err.ensures.faults

pub returns-in-Err-clause-answers : goal.returns-in-Err-clause-answers
returns-in-Err-clause-answers g c = unanswered-so (g.F.Folder.files c.args.folder.now) c.args.s.now c.args.t.now c.in-Err.stop c.in-Err.ensures.loaded
