use Rattle.typed_calls.proofs.laws.needs_start_typed_values.Goals as goal
use Rattle.typed_calls.proofs.ValueStarts.{value-start-is-typed}

pub returns : goal.returns
returns g c = λ names env place. value-start-is-typed g.T.Types.passes names env place
