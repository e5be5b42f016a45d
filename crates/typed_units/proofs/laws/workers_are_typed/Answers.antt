use Rattle.typed_units.proofs.Workers.{all-workers-are-typed}
use Rattle.typed_units.proofs.laws.workers_are_typed.Goals as goal

pub returns : goal.returns
returns g c =
    all-workers-are-typed c.made_statements_are_typed.ensures.simple c.bodies_make_typed_units.ensures g.T.Types.passes c.statements_are_known.ensures
