use Rattle.needs_of_operators.proofs.CheckedParts.{errors-asked}
use Rattle.needs_of_operators.proofs.errors.errors_below.Goals as goal

pub returns-in-Ok-clause-comes : goal.returns-in-Ok-clause-comes
returns-in-Ok-clause-comes g c =
    errors-asked g.T.Types.passes c.args.at (g.T.Types.atoms c.args.types.now) (g.T.Types.atoms c.errors_of.new.types) (g.T.Types.atoms c.require_below.new.types) c.args.part.now c.args.given.now
    c.in-Ok.errors c.deref.result.now c.require_below.result c.in-Ok.ensures.is c.in-Ok.ensures.atoms c.deref.ensures c.require_below.ensures.comes
