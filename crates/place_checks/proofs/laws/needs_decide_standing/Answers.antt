use Rattle.place_checks.proofs.Deciding.{places-told, shown-fallen, standing-decided}
use Rattle.place_checks.proofs.laws.needs_decide_standing.Goals as goal

pub returns-clause-decide : goal.returns-clause-decide
returns-clause-decide c = standing-decided c.needs_decide_places.ensures

pub returns-clause-fallen : goal.returns-clause-fallen
returns-clause-fallen c = shown-fallen (standing-decided c.needs_decide_places.ensures)

pub returns-clause-told : goal.returns-clause-told
returns-clause-told c = places-told c.needs_decide_places.ensures
