use Rattle.typed_stmts.proofs.laws.needs_keep_flows.Goals as goal
use Rattle.typed_stmts.proofs.FlowPieces.{statements-leave}

pub returns : goal.returns
returns g c = λ names env place around loop.
    statements-leave c.made_statements_are_typed.ensures.simple c.made_statements_keep_flows.ensures.simple c.promises_are_ways.ensures.flows g.T.Types.passes names env place around loop
