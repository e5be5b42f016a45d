use Rattle.unit_crews.proofs.Crewing.{placed-are-units, placed-crewed, placed-have-crews}
use Rattle.unit_crews.proofs.laws.placed_crews.Goals as goal

pub returns-clause-crewed : goal.returns-clause-crewed
returns-clause-crewed c = placed-crewed

pub returns-clause-units : goal.returns-clause-units
returns-clause-units c = placed-are-units

pub returns-clause-crews : goal.returns-clause-crews
returns-clause-crews c = placed-have-crews
