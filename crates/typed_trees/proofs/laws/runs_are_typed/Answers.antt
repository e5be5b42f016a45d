use Rattle.typed_trees.proofs.laws.runs_are_typed.Goals as goal
use Rattle.typed_trees.proofs.Runs.{all-runs-are-typed}

pub returns : goal.returns
returns g c =
    all-runs-are-typed g.T.Types.passes c.positions_are_kept.ensures c.runs_go_on.ensures c.lines_are_typed.ensures c.prefixes_are_typed.ensures c.elements_are_typed.ensures
    c.conditions_are_typed.ensures c.constructors_are_typed.ensures c.calls_are_typed.ensures c.actions_are_typed.ensures c.functions_are_typed.ensures
