use Rattle.typed_exprs.proofs.laws.actions_are_typed.Goals as goal
use Rattle.typed_exprs.proofs.ActionLaw.{all-actions-are-typed}

pub returns : goal.returns
returns g c = all-actions-are-typed g.T.Types.passes c.needs_are_calm.ensures c.effects_are_kept.ensures c.needs_make_typed_errors.ensures c.needs_make_typed_waits.ensures
