use Rattle.typed_exprs.proofs.laws.constructors_are_typed.Goals as goal
use Rattle.typed_exprs.proofs.Structures.{all-constructors-are-typed}

pub returns : goal.returns
returns g c = all-constructors-are-typed g.T.Types.passes c.needs_are_calm.ensures c.needs_make_typed_errors.ensures c.needs_make_typed_mappings.ensures
