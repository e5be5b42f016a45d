-- Answers whose limit is one of types.
use Rattle.std.specs.Prelude.{Result, Ok, Err}
use Rattle.bal_base.specs.declared.stop.Stop.{Stop}
use Rattle.bal_base.specs.declared.stop.Stop.TheVariants.{Fault, Memory}
use Rattle.type_model.specs.declared.answers.Answer.{Answer}
use Rattle.type_model.specs.declared.answers.TypeLimit.{TypeLimit}
use Rattle.atom_questions.specs.declared.limits.QuestionLimit.{QuestionLimit}
use Rattle.atom_questions.specs.declared.limits.QuestionLimit.TheVariants.{Types}

abbrev pub widened : Result Answer (Stop TypeLimit) → Result Answer (Stop QuestionLimit)
widened (Ok a) = Ok a
widened (Err Memory) = Err Memory
widened (Err (Fault limit)) = Err (Fault (Types limit))
