use Rattle.std.proofs.Common.{Some}
use Rattle.checks.proofs.Steps.{goes_on, stops}
use Rattle.worker_pairing.specs.Faults.{fits}
use Rattle.worker_members.specs.Held.{members_held, numbered_held, sem_said}
use Rattle.worker_messages.specs.inner.Asked.{sender_fits}
use Rattle.worker_messages.proofs.messages.message_fits.Goals as goal

pub returns-in-Ok-clause-comes : goal.returns-in-Ok-clause-comes
returns-in-Ok-clause-comes g c =
    let old = g.T.Types.atoms c.args.types.now in
    let mid = g.T.Types.atoms c.fits_said.new.types in
    let new = g.T.Types.atoms c.sender_fits.new.types in
    goes_on (fits g.T.Types.passes (sem_said c.args.sent.said.ty) (sem_said c.args.event.said.ty) (Some c.args.event.said.at))
    (λ _. sender_fits g.T.Types.passes (members_held c.args.members.now) (numbered_held c.args.event) c.args.sender c.args.sent.said.early) old mid new tt c.sender_fits.result c.in-Ok.ensures.comes c.sender_fits.ensures.comes

pub returns-in-Err-clause-comes : goal.returns-in-Err-clause-comes
returns-in-Err-clause-comes g c =
    stops (fits g.T.Types.passes (sem_said c.args.sent.said.ty) (sem_said c.args.event.said.ty) (Some c.args.event.said.at))
    (λ _. sender_fits g.T.Types.passes (members_held c.args.members.now) (numbered_held c.args.event) c.args.sender c.args.sent.said.early) (g.T.Types.atoms c.args.types.now) (g.T.Types.atoms c.fits_said.new.types) c.in-Err.stop c.in-Err.ensures.comes
