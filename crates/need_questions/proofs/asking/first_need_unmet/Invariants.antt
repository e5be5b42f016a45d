use Rattle.std.proofs.Common.{All, take}
use Rattle.type_model.specs.Calls.{KeepsTypes}
use Rattle.need_questions.specs.NeedsAsked.{NeedsMet}
use Rattle.need_questions.proofs.asking.first_need_unmet.Given as goal

abbrev pub invariant-loop-question : goal.invariant-loop-question
invariant-loop-question g l = KeepsTypes (g.T.Types.atoms l.fn.types) (g.T.Types.atoms l.types) × All (NeedsMet (g.T.Types.atoms l.fn.types)) (take l.question-index l.questions)
