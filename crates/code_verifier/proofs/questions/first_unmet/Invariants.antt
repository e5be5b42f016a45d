use Rattle.std.proofs.Common.{◌≡◌, All, take}
use Rattle.code_verifier.specs.Questions.{IsYes}
use Rattle.code_verifier.proofs.questions.first_unmet.Given as goal

abbrev pub invariant-loop-question : goal.invariant-loop-question
invariant-loop-question g l = (g.T.Types.atoms l.types ≡ g.T.Types.atoms l.fn.types) × All (IsYes (g.T.Types.atoms l.fn.types)) (take l.question-index l.fn.questions) × (l.questions ≡ l.fn.questions)
