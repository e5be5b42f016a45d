use Rattle.typed_stmts.proofs.laws.needs_make_typed_updates.Goals as goal
use Rattle.typed_stmts.proofs.NameUpdates.{updates-are-typed}

pub returns : goal.returns
returns g c = λ names env place inside. updates-are-typed c.made_statements_are_typed.ensures.simple g.T.Types.passes names env place inside
