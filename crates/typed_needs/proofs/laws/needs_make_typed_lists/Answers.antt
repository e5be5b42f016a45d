use Rattle.typed_needs.proofs.laws.needs_make_typed_lists.Goals as goal
use Rattle.typed_needs.proofs.Items.{lists-are-typed}

pub returns : goal.returns
returns g c = λ names env place. lists-are-typed g.T.Types.passes names env place
