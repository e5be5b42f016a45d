use Rattle.typed_needs.proofs.laws.needs_make_typed_choices.Goals as goal
use Rattle.typed_needs.proofs.Choices.{choices-are-typed}

pub returns : goal.returns
returns g c = λ names env place. choices-are-typed env g.T.Types.passes names place
