use Rattle.place_checks.proofs.Deciding.{first-one, none-first}
use Rattle.place_checks.proofs.laws.only_one_is_first.Goals as goal

pub returns-clause-no_one : goal.returns-clause-no_one
returns-clause-no_one c = none-first c.needs_decide_standing.ensures.fallen

pub returns-clause-one : goal.returns-clause-one
returns-clause-one c = first-one c.needs_decide_standing.ensures.fallen
