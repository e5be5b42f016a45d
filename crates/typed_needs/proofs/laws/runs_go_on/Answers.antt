use Rattle.typed_needs.proofs.laws.runs_go_on.Goals as goal
use Rattle.typed_needs.proofs.WholeRuns.{runs-go-on}

pub returns : goal.returns
returns g c = runs-go-on g.T.Types.passes c.positions_are_kept.ensures c.stmt_positions_are_kept.ensures
