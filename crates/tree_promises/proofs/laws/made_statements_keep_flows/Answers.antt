use Rattle.tree_promises.proofs.laws.made_statements_keep_flows.Goals as goal
use Rattle.tree_promises.proofs.LoopFlows.{made-loop-keeps-flow, made-update-keeps-flow}
use Rattle.tree_promises.proofs.MatchFlows.{made-match-keeps-flow}
use Rattle.tree_promises.proofs.StmtFlows.{made-blocks-keep-flow, made-stmt-keeps-flow}

pub returns-clause-simple : goal.returns-clause-simple
returns-clause-simple c = λ env around loop s at. (made-stmt-keeps-flow env around loop s at, made-blocks-keep-flow env around loop)

pub returns-clause-matches : goal.returns-clause-matches
returns-clause-matches c = λ env around loop s at. made-match-keeps-flow env around loop s at

pub returns-clause-loops : goal.returns-clause-loops
returns-clause-loops c = λ env around loop s at. (made-loop-keeps-flow env around loop s at, made-update-keeps-flow env around loop s at)
