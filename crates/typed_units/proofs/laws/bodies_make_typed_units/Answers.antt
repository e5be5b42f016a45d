use Rattle.typed_units.proofs.Bodies.{all-bodies-make-typed}
use Rattle.typed_units.proofs.laws.bodies_make_typed_units.Goals as goal

pub returns : goal.returns
returns c = all-bodies-make-typed
