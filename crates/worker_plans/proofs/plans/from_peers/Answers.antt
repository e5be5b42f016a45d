use Rattle.checks.proofs.Steps.{goes_on, stops}
use Rattle.worker_members.specs.Held.{members_held}
use Rattle.worker_plans.specs.inner.Chains.{from_returns, paired, peered, settled, unconditional}
use Rattle.worker_plans.proofs.Chaining.{regroup-three}
use Rattle.worker_plans.proofs.plans.from_peers.Goals as goal

pub returns-in-Ok-clause-comes : goal.returns-in-Ok-clause-comes
returns-in-Ok-clause-comes g c =
    let ms = members_held c.args.members.now in
    let old = g.T.Types.atoms c.args.types.now in
    let new = g.T.Types.atoms c.from_returns.new.types in
    regroup-three (peered ms) (unconditional ms) (paired ms) (from_returns g.T.Types.passes ms) old new c.from_returns.result
    (goes_on (settled ms) (λ _. from_returns g.T.Types.passes ms) old old new tt c.from_returns.result (c.in-Ok.ensures old) c.from_returns.ensures.comes)

pub returns-in-Err-clause-comes : goal.returns-in-Err-clause-comes
returns-in-Err-clause-comes g c =
    let ms = members_held c.args.members.now in
    let old = g.T.Types.atoms c.args.types.now in
    regroup-three (peered ms) (unconditional ms) (paired ms) (from_returns g.T.Types.passes ms) old old _
    (stops (settled ms) (λ _. from_returns g.T.Types.passes ms) old old c.in-Err.stop (c.in-Err.ensures old))
