use Rattle.std.proofs.Common.{length, refl}
use Rattle.check_work.specs.Views.{state_of}
use Rattle.check_work.proofs.Updating.{given-below, on-given, read-below, result-below, result-fits, stored-below, taken-stands}
use Rattle.check_work.proofs.updates.result_fits.Goals as goal

pub fitting-requires-clause-stored : goal.fitting-requires-clause-stored
fitting-requires-clause-stored g c = stored-below _ _ _ (state_of (g.T.Types.atoms c.args.types.now) c.args.work.now) _ c.in-Ok.ensures c.requires

pub fitting-requires-clause-result : goal.fitting-requires-clause-result
fitting-requires-clause-result g c = result-below _ _ _ (state_of (g.T.Types.atoms c.args.types.now) c.args.work.now) _ c.in-Ok.ensures c.requires

pub returns-in-Ok-clause-stands : goal.returns-in-Ok-clause-stands
returns-in-Ok-clause-stands g c =
    on-given c.fitting.result _ (taken-stands _ _ _ (state_of (g.T.Types.atoms c.args.types.now) c.args.work.now) _ c.in-Ok.ensures c.requires)

pub returns-in-Ok-clause-below : goal.returns-in-Ok-clause-below
returns-in-Ok-clause-below g c =
    given-below (length (g.T.Types.atoms c.args.types.now)) c.fitting.result c.in-Ok.wanted.read c.fitting.ensures.read
    (read-below _ _ _ (state_of (g.T.Types.atoms c.args.types.now) c.args.work.now) _ c.in-Ok.ensures c.requires)

pub returns-in-Ok-clause-comes : goal.returns-in-Ok-clause-comes
returns-in-Ok-clause-comes g c =
    result-fits _ _ _ (state_of (g.T.Types.atoms c.args.types.now) c.args.work.now) _ c.in-Ok.ensures g.T.Types.passes c.args.at _ c.fitting.result
    (c.fitting.ensures.comes _ refl)
