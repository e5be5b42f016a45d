use Rattle.typed_stmts.proofs.laws.needs_make_typed_branches.Goals as goal
use Rattle.typed_stmts.proofs.Branches.{branches-are-typed}

pub returns : goal.returns
returns g c = λ names env place inside. branches-are-typed c.made_statements_are_typed.ensures.simple c.made_statements_are_typed.ensures.loops g.T.Types.passes names env place inside
