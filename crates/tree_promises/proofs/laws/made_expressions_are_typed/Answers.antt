use Rattle.tree_promises.proofs.laws.made_expressions_are_typed.Goals as goal
use Rattle.tree_promises.proofs.Pieces.{made-is-typed}

pub returns : goal.returns
returns c = made-is-typed
