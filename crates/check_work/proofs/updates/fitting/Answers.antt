use Rattle.std.proofs.Common.{Err, Ok, refl, subst, sym}
use Rattle.checks.proofs.Steps.{stops}
use Rattle.type_model.specs.Defined.{IsDefined}
use Rattle.check_words.proofs.Coming.{asked, given, next}
use Rattle.check_work.proofs.Updating.{below-of}
use Rattle.check_work.proofs.updates.fitting.Goals as goal

pub require_below-requires-clause-left : goal.require_below-requires-clause-left
require_below-requires-clause-left g c = subst (IsDefined (g.T.Types.atoms c.args.types.now)) (sym c.shapes_in.ensures) c.requires.result.0

pub require_below-requires-clause-right : goal.require_below-requires-clause-right
require_below-requires-clause-right g c = subst (IsDefined (g.T.Types.atoms c.args.types.now)) (sym c.shapes_in-2.ensures) c.requires.stored.0

pub returns-in-Ok-clause-comes : goal.returns-in-Ok-clause-comes
returns-in-Ok-clause-comes g c = λ s e.
    next _ _ _ _ _ tt (record s { atoms = g.T.Types.atoms c.require_below.new.types })
    (asked _ s _ (Ok tt) (below-of g.T.Types.passes c.args.at _ _ _ _ _ s.atoms _ (Ok tt) c.shapes_in.ensures c.shapes_in-2.ensures e c.in-Ok.ensures.comes))
    (given _ _ c.args.wanted.read refl)

pub returns-in-Err-clause-comes : goal.returns-in-Err-clause-comes
returns-in-Err-clause-comes g c = λ s e.
    stops _ _ s _ c.in-Err.stop
    (asked _ s _ (Err c.in-Err.stop) (below-of g.T.Types.passes c.args.at _ _ _ _ _ s.atoms _ (Err c.in-Err.stop) c.shapes_in.ensures c.shapes_in-2.ensures e c.in-Err.ensures.comes))
