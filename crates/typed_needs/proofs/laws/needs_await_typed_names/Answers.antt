use Rattle.typed_needs.proofs.laws.needs_await_typed_names.Goals as goal
use Rattle.typed_needs.proofs.Waits.{waits-are-typed}

pub returns : goal.returns
returns g c = λ names env place. waits-are-typed g.T.Types.passes names env place
