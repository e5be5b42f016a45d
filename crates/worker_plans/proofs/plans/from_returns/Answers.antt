use Rattle.checks.proofs.Steps.{goes_on, stops}
use Rattle.worker_pairing.specs.Faults.{all_pass, member_passes, named_first}
use Rattle.worker_members.specs.Held.{members_held}
use Rattle.worker_plans.specs.inner.Chains.{from_messages}
use Rattle.worker_plans.proofs.plans.from_returns.Goals as goal

pub returns-in-Ok-clause-comes : goal.returns-in-Ok-clause-comes
returns-in-Ok-clause-comes g c =
    let ms = members_held c.args.members.now in
    let old = g.T.Types.atoms c.args.types.now in
    let mid = g.T.Types.atoms c.returns_give_errors.new.types in
    let new = g.T.Types.atoms c.from_messages.new.types in
    goes_on (all_pass (member_passes g.T.Types.passes) (named_first g.T.Types.passes ms)) (λ _. from_messages g.T.Types.passes ms) old mid new tt c.from_messages.result c.in-Ok.ensures.comes c.from_messages.ensures.comes

pub returns-in-Err-clause-comes : goal.returns-in-Err-clause-comes
returns-in-Err-clause-comes g c =
    let ms = members_held c.args.members.now in
    stops (all_pass (member_passes g.T.Types.passes) (named_first g.T.Types.passes ms)) (λ _. from_messages g.T.Types.passes ms) (g.T.Types.atoms c.args.types.now) (g.T.Types.atoms c.returns_give_errors.new.types) c.in-Err.stop c.in-Err.ensures.comes
