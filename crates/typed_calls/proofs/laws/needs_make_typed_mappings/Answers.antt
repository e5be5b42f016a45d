use Rattle.typed_calls.proofs.laws.needs_make_typed_mappings.Goals as goal
use Rattle.typed_calls.proofs.Mappings.{mappings-are-typed}

pub returns : goal.returns
returns g c = λ names env place. mappings-are-typed g.T.Types.passes names env place
