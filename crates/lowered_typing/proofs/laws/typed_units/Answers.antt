use Rattle.lowered_typing.proofs.Coded.{code-is-typed-by-maps}
use Rattle.lowered_typing.proofs.Turning.{units-are-typed-in-turn}
use Rattle.lowered_typing.proofs.laws.typed_units.Goals as goal

pub returns-clause-units : goal.returns-clause-units
returns-clause-units c = units-are-typed-in-turn

pub returns-clause-code : goal.returns-clause-code
returns-clause-code c = code-is-typed-by-maps
