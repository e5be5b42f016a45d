use Rattle.typed_needs.proofs.laws.needs_make_typed_names.Goals as goal
use Rattle.typed_needs.proofs.Naming.{name-is-typed}

pub returns : goal.returns
returns g c = λ names env place. name-is-typed env g.T.Types.passes names place
