use Rattle.typed_functions.proofs.laws.functions_are_typed.Goals as goal
use Rattle.typed_functions.proofs.Line.{all-functions-are-typed}

pub returns : goal.returns
returns g c = all-functions-are-typed g.T.Types.passes
