use Rattle.std.proofs.Common.{subst}
use Rattle.package_questions.specs.PackageAnswers.{AnswersFor}
use Rattle.type_diagrams.specs.Reach.{Passes}
use Rattle.folder_programs.proofs.question.package_answer.Goals as goal

pub returns : goal.returns
returns c =
    subst (λ atoms. AnswersFor Passes atoms c.args.«package».now c.args.s.now c.args.t.now c.answer_for.result) c.new-types.ensures.atoms c.answer_for.ensures
