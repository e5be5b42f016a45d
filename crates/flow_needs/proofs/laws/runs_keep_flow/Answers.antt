use Rattle.flow_needs.proofs.laws.runs_keep_flow.Goals as goal
use Rattle.flow_needs.proofs.Runs.{all-runs-keep-flow}

pub returns : goal.returns
returns g c =
    all-runs-keep-flow g.T.Types.passes c.positions_are_kept.ensures c.runs_go_on.ensures c.needs_are_calm.ensures c.ways_stay_on.ensures c.made_expressions_keep_flows.ensures
