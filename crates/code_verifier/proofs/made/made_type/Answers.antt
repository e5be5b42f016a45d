use Rattle.std.proofs.Common.{true}
use Rattle.code_verifier.proofs.MadeShapes.{made-so}
use Rattle.code_verifier.proofs.made.made_type.Goals as goal

pub returns-in-true : goal.returns-in-true
returns-in-true c = made-so c.args.atom c.args.immutable true c.in-true.is c.in_set.result c.in_set.ensures
