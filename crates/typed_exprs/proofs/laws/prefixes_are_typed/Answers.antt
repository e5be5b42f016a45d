use Rattle.typed_exprs.proofs.laws.prefixes_are_typed.Goals as goal
use Rattle.typed_exprs.proofs.Prefixes.{all-prefixes-are-typed}

pub returns : goal.returns
returns g c = all-prefixes-are-typed g.T.Types.passes c.needs_are_calm.ensures
