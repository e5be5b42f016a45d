use Rattle.typed_exprs.proofs.laws.conditions_are_typed.Goals as goal
use Rattle.typed_exprs.proofs.Conditions.{all-conditions-are-typed}

pub returns : goal.returns
returns g c = all-conditions-are-typed g.T.Types.passes c.needs_are_calm.ensures c.ways_stay_on.ensures
