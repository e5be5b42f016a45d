use Rattle.typed_stmts.proofs.laws.needs_make_typed_stores.Goals as goal
use Rattle.typed_stmts.proofs.Storing.{stores-are-typed}

pub returns : goal.returns
returns g c = λ names env place. stores-are-typed g.T.Types.passes names env place c.made_statements_are_typed.ensures.simple
