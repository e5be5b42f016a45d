use Rattle.std.proofs.Common.{◌≡◌, Some, subst, sym}
use Rattle.type_model.specs.Defined.{IsDefined}
use Rattle.checks.specs.Checks.{Comes}
use Rattle.worker_pairing.specs.Faults.{fits}
use Rattle.worker_members.specs.Held.{sem_said}
use Rattle.worker_messages.proofs.fitting.fits_said.Goals as goal

pub fits-requires-clause-left : goal.fits-requires-clause-left
fits-requires-clause-left g c = subst (IsDefined (g.T.Types.atoms c.args.types.now)) (sym c.sem.ensures) c.requires.left

pub fits-requires-clause-right : goal.fits-requires-clause-right
fits-requires-clause-right g c = subst (IsDefined (g.T.Types.atoms c.args.types.now)) (sym c.sem-2.ensures) c.requires.right

pub returns-clause-comes : goal.returns-clause-comes
returns-clause-comes g c =
    let old = g.T.Types.atoms c.args.types.now in
    let new = g.T.Types.atoms c.fits.new.types in
    subst (λ t. Comes (fits g.T.Types.passes (sem_said c.args.sent) t (Some c.args.at)) old c.fits.result new) c.sem-2.ensures
    (subst (λ s. Comes (fits g.T.Types.passes s c.sem-2.result.now (Some c.args.at)) old c.fits.result new) c.sem.ensures c.fits.ensures.comes)
