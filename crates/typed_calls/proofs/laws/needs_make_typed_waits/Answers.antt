use Rattle.typed_calls.proofs.laws.needs_make_typed_waits.Goals as goal
use Rattle.typed_calls.proofs.WholeWaits.{whole-waits-are-typed}

pub returns : goal.returns
returns g c = λ names env place. whole-waits-are-typed g.T.Types.passes names env place
