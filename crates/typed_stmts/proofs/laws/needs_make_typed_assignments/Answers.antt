use Rattle.typed_stmts.proofs.laws.needs_make_typed_assignments.Goals as goal
use Rattle.typed_stmts.proofs.Assigning.{assignments-are-typed}

pub returns : goal.returns
returns g c = λ names env place inside. assignments-are-typed g.T.Types.passes names env c.made_statements_are_typed.ensures.simple place inside
