use Rattle.map_traces.proofs.ExprsTold.{expressions-are-traced}
use Rattle.map_traces.proofs.StmtsTold.{statements-are-traced}
use Rattle.map_traces.proofs.UnitsTold.{units-are-traced}
use Rattle.map_traces.proofs.laws.traced_maps.Goals as goal

pub returns-clause-expressions : goal.returns-clause-expressions
returns-clause-expressions c = expressions-are-traced

pub returns-clause-statements : goal.returns-clause-statements
returns-clause-statements c = statements-are-traced

pub returns-clause-units : goal.returns-clause-units
returns-clause-units c = units-are-traced
