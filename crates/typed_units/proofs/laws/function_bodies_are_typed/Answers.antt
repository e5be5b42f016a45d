use Rattle.typed_units.proofs.Functions.{all-bodies-are-typed}
use Rattle.typed_units.proofs.laws.function_bodies_are_typed.Goals as goal

pub returns : goal.returns
returns g c =
    all-bodies-are-typed c.made_statements_are_typed.ensures.simple c.bodies_make_typed_units.ensures g.T.Types.passes c.statements_are_known.ensures c.stmt_positions_are_kept.ensures
    c.runs_go_on.ensures
