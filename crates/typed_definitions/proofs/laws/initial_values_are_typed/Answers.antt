use Rattle.typed_definitions.proofs.InitialValues.{all-initial-values-are-typed}
use Rattle.typed_definitions.proofs.laws.initial_values_are_typed.Goals as goal

pub returns : goal.returns
returns g c =
    all-initial-values-are-typed g.T.Types.passes c.positions_are_kept.ensures c.runs_go_on.ensures c.statements_are_known.ensures c.done_is_kept.ensures c.trees_end_none.ensures
