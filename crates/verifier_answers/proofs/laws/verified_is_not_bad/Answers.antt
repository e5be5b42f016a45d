use Rattle.verifier_answers.proofs.Deciding.{never-bad}
use Rattle.verifier_answers.proofs.laws.verified_is_not_bad.Goals as goal

pub returns : goal.returns
returns c = never-bad c.shown_places_break.ensures
