-- Answers to questions as answers of a place.
use Rattle.std.specs.Prelude.{Option, Some, None, Result, Ok, Err}
use Rattle.bal_base.specs.declared.shape.Shape.{Shape}
use Rattle.bal_base.specs.declared.stop.Stop.{Stop}
use Rattle.atom_questions.specs.declared.limits.QuestionLimit.{QuestionLimit}
use Rattle.place_checks.specs.declared.needs.Standing.{Standing}
use Rattle.place_checks.specs.declared.needs.Standing.TheVariants as told

abbrev pub standing_of : Result (Option Shape) (Stop QuestionLimit) → Result Standing (Stop QuestionLimit)
standing_of (Ok (Some shape)) = Ok (told.Falls (Some shape))
standing_of (Ok None) = Ok told.Stands
standing_of (Err stop) = Err stop
