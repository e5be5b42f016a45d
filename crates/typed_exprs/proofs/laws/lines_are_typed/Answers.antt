use Rattle.typed_exprs.proofs.laws.lines_are_typed.Goals as goal
use Rattle.typed_exprs.proofs.Law.{all-lines-are-typed}

pub returns : goal.returns
returns g c = all-lines-are-typed g.T.Types.passes c.needs_are_calm.ensures
