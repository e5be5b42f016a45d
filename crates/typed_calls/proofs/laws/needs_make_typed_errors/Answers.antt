use Rattle.typed_calls.proofs.laws.needs_make_typed_errors.Goals as goal
use Rattle.typed_calls.proofs.Errors.{errors-are-typed}

pub returns : goal.returns
returns g c = λ names env place. errors-are-typed g.T.Types.passes names env place
