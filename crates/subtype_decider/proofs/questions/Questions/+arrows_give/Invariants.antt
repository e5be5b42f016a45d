use Rattle.std.proofs.Common.{length}
use Rattle.subtype_decider.proofs.questions.Questions.+arrows_give.Given as goal

abbrev pub decreases-arrows_give : goal.decreases-arrows_give
decreases-arrows_give l = length l.arrows.now
