use Rattle.std.proofs.Common.{map, subst, sym}
use Rattle.std.specs.Prelude.{All}
use Rattle.type_model.specs.Defined.{IsDefined}
use Rattle.checks.specs.Checks.{Comes}
use Rattle.worker_pairing.specs.Faults.{all_pass, message_passes}
use Rattle.worker_members.specs.Held.{members_held, numbered_held}
use Rattle.worker_messages.proofs.Fitted.{text-said}
use Rattle.worker_messages.proofs.Returned.{of-map}
use Rattle.worker_messages.proofs.messages.messages_fit.Goals as goal

pub messages_pass-requires-clause-received : goal.messages_pass-requires-clause-received
messages_pass-requires-clause-received g c =
    let env = g.T.Types.atoms c.args.types.now in
    of-map (λ e. IsDefined env e.saying.type) numbered_held c.args.text.now
    (subst (All (λ e. IsDefined env e.saying.type)) (sym c.requires.text) (text-said env (members_held c.args.members.now) c.requires.members))

pub returns-clause-comes : goal.returns-clause-comes
returns-clause-comes g c =
    subst (λ es. Comes (all_pass (message_passes g.T.Types.passes (members_held c.args.members.now)) es) (g.T.Types.atoms c.args.types.now) c.messages_pass.result (g.T.Types.atoms c.messages_pass.new.types))
    c.requires.text c.messages_pass.ensures.comes
