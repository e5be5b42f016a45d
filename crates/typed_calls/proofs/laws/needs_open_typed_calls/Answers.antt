use Rattle.typed_calls.proofs.laws.needs_open_typed_calls.Goals as goal
use Rattle.typed_calls.proofs.Callees.{callees-are-opened}

pub returns : goal.returns
returns g c = λ names env place. callees-are-opened g.T.Types.passes names env place
