use Rattle.typed_bodies.proofs.Law.{all-lines-are-typed}
use Rattle.typed_bodies.proofs.laws.statements_line_by_line.Goals as goal

pub returns : goal.returns
returns g c = all-lines-are-typed c.made_statements_are_typed.ensures.simple c.made_statements_are_typed.ensures.loops g.T.Types.passes c.needs_are_calm.ensures
