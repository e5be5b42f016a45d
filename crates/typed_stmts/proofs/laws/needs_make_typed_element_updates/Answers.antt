use Rattle.typed_stmts.proofs.laws.needs_make_typed_element_updates.Goals as goal
use Rattle.typed_stmts.proofs.ElementUpdates.{elements-are-typed}

pub returns : goal.returns
returns g c = λ names env place inside.
    elements-are-typed g.T.Types.passes names env place c.made_statements_are_typed.ensures.simple c.made_statements_are_typed.ensures.loops inside
