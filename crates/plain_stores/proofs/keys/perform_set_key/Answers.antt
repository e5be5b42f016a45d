use Rattle.plain_run.specs.Held.{with_world}
use Rattle.plain_stores.proofs.Performed.{key-done}
use Rattle.plain_stores.proofs.keys.perform_set_key.Goals as goal

pub returns-in_ok-came-in-Some-clause-row : goal.returns-in_ok-came-in-Some-clause-row
returns-in_ok-came-in-Some-clause-row c =
    let old = c.args.common.now in
    let w = c.sets_key.new.world in
    λ caller. key-done c.args.facts.now caller c.args.operands.now old w c.in_ok-came-in-Some.came c.answered.result (c.answered.ensures.row (with_world old w)) c.in-Some.n c.in-Some.key c.in-Some.v c.in-Some.ensures c.in_ok-came-in-Some.ensures.row

pub returns-in_ok-came-in-Some-clause-stays : goal.returns-in_ok-came-in-Some-clause-stays
returns-in_ok-came-in-Some-clause-stays c = c.answered.ensures.stays c.args.common.now c.sets_key.new.world c.in_ok-came-in-Some.ensures.stays
