use Rattle.tree_promises.proofs.laws.ways_go_by_layers.Goals as goal
use Rattle.tree_promises.proofs.Layered.{expr-by-layer, stmt-by-layer}

pub returns-clause-expressions : goal.returns-clause-expressions
returns-clause-expressions g c = expr-by-layer g.W.AnyWays.ways

pub returns-clause-statements : goal.returns-clause-statements
returns-clause-statements g c = stmt-by-layer g.W.AnyWays.ways
