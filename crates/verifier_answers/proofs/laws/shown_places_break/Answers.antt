use Rattle.verifier_answers.proofs.Deciding.{shown-break}
use Rattle.verifier_answers.proofs.laws.shown_places_break.Goals as goal

pub returns : goal.returns
returns c = shown-break c.places_decide.ensures
