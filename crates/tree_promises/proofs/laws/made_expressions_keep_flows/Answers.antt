use Rattle.tree_promises.proofs.laws.made_expressions_keep_flows.Goals as goal
use Rattle.tree_promises.proofs.FlowPieces.{made-keeps-flow}

pub returns : goal.returns
returns c = made-keeps-flow
