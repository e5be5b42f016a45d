use Rattle.worker_pairing.proofs.Refusals.{condition-comes-first, failure-outside-so, names-itself, no-plan-in-ring, pair-comes-first, pairs-by-peers, peer-comes-first, plans-one-message, receives-too-often, returns-before-receive, returns-before-send, sends-in-branch, sends-nil, too-many-workers, waits-initially}
use Rattle.worker_pairing.proofs.cases.faults_come_to_cases.Goals as goal

pub returns-clause-too_many_workers : goal.returns-clause-too_many_workers
returns-clause-too_many_workers g c = too-many-workers g.T.Types.passes

pub returns-clause-names_itself : goal.returns-clause-names_itself
returns-clause-names_itself g c = names-itself g.T.Types.passes

pub returns-clause-waits_initially : goal.returns-clause-waits_initially
returns-clause-waits_initially g c = waits-initially g.T.Types.passes

pub returns-clause-peer_comes_first : goal.returns-clause-peer_comes_first
returns-clause-peer_comes_first g c = peer-comes-first g.T.Types.passes

pub returns-clause-sends_in_branch : goal.returns-clause-sends_in_branch
returns-clause-sends_in_branch g c = sends-in-branch g.T.Types.passes

pub returns-clause-condition_comes_first : goal.returns-clause-condition_comes_first
returns-clause-condition_comes_first g c = condition-comes-first g.T.Types.passes

pub returns-clause-receives_too_often : goal.returns-clause-receives_too_often
returns-clause-receives_too_often g c = receives-too-often g.T.Types.passes

pub returns-clause-pairs_by_peers : goal.returns-clause-pairs_by_peers
returns-clause-pairs_by_peers g c = pairs-by-peers g.T.Types.passes

pub returns-clause-pair_comes_first : goal.returns-clause-pair_comes_first
returns-clause-pair_comes_first g c = pair-comes-first g.T.Types.passes

pub returns-clause-returns_before_send : goal.returns-clause-returns_before_send
returns-clause-returns_before_send g c = returns-before-send g.T.Types.passes

pub returns-clause-returns_before_receive : goal.returns-clause-returns_before_receive
returns-clause-returns_before_receive g c = returns-before-receive g.T.Types.passes

pub returns-clause-sends_nil : goal.returns-clause-sends_nil
returns-clause-sends_nil g c = sends-nil g.T.Types.passes

pub returns-clause-plans_one_message : goal.returns-clause-plans_one_message
returns-clause-plans_one_message g c = plans-one-message g.T.Types.passes

pub returns-clause-no_plan_in_ring : goal.returns-clause-no_plan_in_ring
returns-clause-no_plan_in_ring g c = no-plan-in-ring g.T.Types.passes

pub returns-clause-failure_is_outside : goal.returns-clause-failure_is_outside
returns-clause-failure_is_outside g c = failure-outside-so g.T.Types.passes
