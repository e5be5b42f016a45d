use Rattle.verifier_answers.proofs.Deciding.{places-decided}
use Rattle.verifier_answers.proofs.laws.places_decide.Goals as goal

pub returns : goal.returns
returns c = places-decided c.needs_decide_code.ensures c.needs_decide_fields.ensures
