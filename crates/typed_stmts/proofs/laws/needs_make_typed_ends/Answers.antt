use Rattle.typed_stmts.proofs.laws.needs_make_typed_ends.Goals as goal
use Rattle.typed_stmts.proofs.Ends.{all-ends-are-typed}

pub returns : goal.returns
returns g c = λ names env place. all-ends-are-typed c.made_statements_are_typed.ensures.simple g.T.Types.passes names env place
