use Rattle.kept_flows.proofs.Law.{blocks-see-the-same, values-keep-flows}
use Rattle.kept_flows.proofs.laws.flows_are_kept.Goals as goal

pub returns-clause-values : goal.returns-clause-values
returns-clause-values g c = values-keep-flows g.T.Types.passes c.needs_are_calm.ensures

pub returns-clause-blocks : goal.returns-clause-blocks
returns-clause-blocks g c = blocks-see-the-same g.T.Types.passes c.needs_are_calm.ensures c.stmt_positions_are_kept.ensures c.runs_go_on.ensures
