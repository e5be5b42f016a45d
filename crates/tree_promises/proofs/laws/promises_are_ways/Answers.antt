use Rattle.tree_promises.proofs.laws.promises_are_ways.Goals as goal
use Rattle.tree_promises.proofs.Order.{flows-are-ways, types-are-ways}

pub returns-clause-types : goal.returns-clause-types
returns-clause-types c = types-are-ways

pub returns-clause-flows : goal.returns-clause-flows
returns-clause-flows c = flows-are-ways
