use Rattle.code_needs.proofs.Places.{places-decided}
use Rattle.code_needs.proofs.laws.needs_decide_places.Goals as goal

pub returns : goal.returns
returns c = places-decided
