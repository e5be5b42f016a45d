use Rattle.typed_needs.proofs.laws.needs_make_typed_functions.Goals as goal
use Rattle.typed_needs.proofs.Anonymous.{anonymous-is-typed}

pub returns : goal.returns
returns g c = λ names env place. anonymous-is-typed g.T.Types.passes names env place
