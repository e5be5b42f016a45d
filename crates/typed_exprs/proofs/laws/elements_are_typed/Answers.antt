use Rattle.typed_exprs.proofs.laws.elements_are_typed.Goals as goal
use Rattle.typed_exprs.proofs.Elements.{all-elements-are-typed}

pub returns : goal.returns
returns g c = all-elements-are-typed g.T.Types.passes c.needs_are_calm.ensures
