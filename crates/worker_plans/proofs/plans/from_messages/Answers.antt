use Rattle.checks.proofs.Steps.{goes_on, stops}
use Rattle.worker_pairing.specs.Faults.{all_pass, message_passes, ordered}
use Rattle.worker_pairing.specs.Marks.{in_text}
use Rattle.worker_members.specs.Held.{members_held}
use Rattle.worker_plans.proofs.plans.from_messages.Goals as goal

pub returns-in-Ok-clause-comes : goal.returns-in-Ok-clause-comes
returns-in-Ok-clause-comes g c =
    let ms = members_held c.args.members.now in
    let old = g.T.Types.atoms c.args.types.now in
    let new = g.T.Types.atoms c.messages_fit.new.types in
    goes_on (all_pass (message_passes g.T.Types.passes ms) (in_text ms)) (λ _. ordered ms) old new new tt c.ordered.result c.in-Ok.ensures.comes (c.ordered.ensures new)

pub returns-in-Err-clause-comes : goal.returns-in-Err-clause-comes
returns-in-Err-clause-comes g c =
    let ms = members_held c.args.members.now in
    stops (all_pass (message_passes g.T.Types.passes ms) (in_text ms)) (λ _. ordered ms) (g.T.Types.atoms c.args.types.now) (g.T.Types.atoms c.messages_fit.new.types) c.in-Err.stop c.in-Err.ensures.comes
