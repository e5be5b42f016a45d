use Rattle.tree_promises.proofs.laws.made_statements_are_typed.Goals as goal
use Rattle.tree_promises.proofs.LoopPieces.{made-loop-is-typed}
use Rattle.tree_promises.proofs.StmtPieces.{made-stmt-is-typed, made-stmts-are-typed}

pub returns-clause-simple : goal.returns-clause-simple
returns-clause-simple c = λ env place inside truth s at. (made-stmt-is-typed env place inside truth s at, made-stmts-are-typed env place inside)

pub returns-clause-loops : goal.returns-clause-loops
returns-clause-loops c = λ env place inside truth s at. made-loop-is-typed env place inside truth s at
