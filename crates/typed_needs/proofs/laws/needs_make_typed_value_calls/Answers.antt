use Rattle.typed_needs.proofs.laws.needs_make_typed_value_calls.Goals as goal
use Rattle.typed_needs.proofs.ValueCalls.{value-call-is-typed}

pub returns : goal.returns
returns g c = λ names env place. value-call-is-typed g.T.Types.passes names env place
