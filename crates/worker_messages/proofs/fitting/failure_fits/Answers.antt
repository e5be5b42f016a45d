use Rattle.std.proofs.Common.{◌≡◌, Some, length, refl, subst, sym}
use Rattle.type_model.specs.Defined.{IsDefined}
use Rattle.checks.specs.Checks.{Comes, gives_some}
use Rattle.checks.proofs.Steps.{goes_on, ran_out, some_is}
use Rattle.worker_pairing.specs.Faults.{IsBothOf, error_type, failure_fits, fits}
use Rattle.worker_members.specs.Held.{sem_said}
use Rattle.worker_messages.proofs.fitting.failure_fits.Goals as goal

pub fits-requires-clause-left : goal.fits-requires-clause-left
fits-requires-clause-left g c = c.in-Ok.ensures.defined (length (g.T.Types.atoms c.args.types.now)) c.requires.left

pub fits-requires-clause-right : goal.fits-requires-clause-right
fits-requires-clause-right g c = subst (IsDefined (g.T.Types.atoms c.args.types.now)) (sym c.sem.ensures) c.requires.right

pub returns-in-Ok-clause-comes : goal.returns-in-Ok-clause-comes
returns-in-Ok-clause-comes g c =
    let old = g.T.Types.atoms c.args.types.now in
    let new = g.T.Types.atoms c.fits.new.types in
    goes_on (gives_some (λ env u. IsBothOf c.args.result_type.now error_type u)) (λ fail. fits g.T.Types.passes fail (sem_said c.args.received) (Some c.args.at)) old old new c.in-Ok.fail c.fits.result
    (some_is (λ env u. IsBothOf c.args.result_type.now error_type u) old old c.in-Ok.fail refl c.in-Ok.ensures.is)
    (subst (λ t. Comes (fits g.T.Types.passes c.in-Ok.fail t (Some c.args.at)) old c.fits.result new) c.sem.ensures c.fits.ensures.comes)

pub returns-clause-comes : goal.returns-clause-comes
returns-clause-comes g c = ran_out (failure_fits g.T.Types.passes c.args.result_type.now (sem_said c.args.received) (Some c.args.at)) _ _
