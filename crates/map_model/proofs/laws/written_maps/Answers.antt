use Rattle.map_model.proofs.Bodies.{constants-are-mapped, constants-are-written, places-have-points, units-are-counted, units-are-mapped}
use Rattle.map_model.proofs.Expressions.{expressions-are-mapped}
use Rattle.map_model.proofs.Keeping.{expressions-keep-operands, statements-keep-operands}
use Rattle.map_model.proofs.Statements.{statements-are-mapped}
use Rattle.map_model.proofs.Ways.{written-units-have-ways}
use Rattle.map_model.proofs.laws.written_maps.Goals as goal

pub returns-clause-expressions : goal.returns-clause-expressions
returns-clause-expressions c = expressions-are-mapped

pub returns-clause-statements : goal.returns-clause-statements
returns-clause-statements c = statements-are-mapped

pub returns-clause-units : goal.returns-clause-units
returns-clause-units c = units-are-mapped

pub returns-clause-counted : goal.returns-clause-counted
returns-clause-counted c = units-are-counted

pub returns-clause-worked : goal.returns-clause-worked
returns-clause-worked c = constants-are-mapped

pub returns-clause-ways : goal.returns-clause-ways
returns-clause-ways c = written-units-have-ways

pub returns-clause-met : goal.returns-clause-met
returns-clause-met c = constants-are-written

pub returns-clause-points : goal.returns-clause-points
returns-clause-points c = places-have-points

pub returns-clause-kept : goal.returns-clause-kept
returns-clause-kept c = expressions-keep-operands

pub returns-clause-kept_by_statements : goal.returns-clause-kept_by_statements
returns-clause-kept_by_statements c = statements-keep-operands
