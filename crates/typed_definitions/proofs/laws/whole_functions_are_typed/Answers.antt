use Rattle.typed_definitions.proofs.Whole.{all-whole-functions-are-typed}
use Rattle.typed_definitions.proofs.laws.whole_functions_are_typed.Goals as goal

pub returns : goal.returns
returns g c =
    all-whole-functions-are-typed g.T.Types.passes c.positions_are_kept.ensures c.stmt_positions_are_kept.ensures c.runs_go_on.ensures c.done_is_kept.ensures c.trees_end_none.ensures
    c.workers_are_typed.ensures c.function_bodies_are_typed.ensures
