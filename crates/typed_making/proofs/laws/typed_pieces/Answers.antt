use Rattle.typed_making.proofs.Bodies.{units-are-typed}
use Rattle.typed_making.proofs.Expressions.{expressions-are-typed}
use Rattle.typed_making.proofs.Statements.{statements-are-typed}
use Rattle.typed_making.proofs.laws.typed_pieces.Goals as goal

pub returns-clause-expressions : goal.returns-clause-expressions
returns-clause-expressions c = expressions-are-typed

pub returns-clause-statements : goal.returns-clause-statements
returns-clause-statements c = statements-are-typed

pub returns-clause-units : goal.returns-clause-units
returns-clause-units c = units-are-typed
