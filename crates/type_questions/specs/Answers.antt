-- What is told of an answer.
use Rattle.std.specs.Prelude.{◌++◌, ℕ, List, codes}
use Rattle.bal_report.specs.ShapeText.{shape_text}
use Rattle.type_model.specs.declared.answers.Answer.{Answer}
use Rattle.type_model.specs.declared.answers.Answer.TheVariants.{Yes, No}

-- the characters of its text, with the line end
abbrev pub answer_text : Answer → List ℕ
answer_text Yes = codes "yes\n"
answer_text (No x) = codes "no " ++ shape_text x ++ codes "\n"
