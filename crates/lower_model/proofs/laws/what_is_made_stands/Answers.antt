use Rattle.lower_model.proofs.Lowering.{expr-laid}
use Rattle.lower_model.proofs.LoweringStmts.{stmt-laid}
use Rattle.lower_model.proofs.Units.{units-laid}
use Rattle.lower_model.proofs.laws.what_is_made_stands.Goals as goal

pub returns-clause-expressions : goal.returns-clause-expressions
returns-clause-expressions g e = expr-laid e

pub returns-clause-statements : goal.returns-clause-statements
returns-clause-statements g s = stmt-laid s

pub returns-clause-units : goal.returns-clause-units
returns-clause-units g code = units-laid code
