use Rattle.plain_run.proofs.Doing.{concat-done}
use Rattle.plain_run.specs.Held.{with_world}
use Rattle.plain_run.proofs.strings.perform_concat.Goals as goal

pub returns-in_ok-came-in-Some-clause-row : goal.returns-in_ok-came-in-Some-clause-row
returns-in_ok-came-in-Some-clause-row c =
    let new = with_world c.args.common.now c.gives_text.new.world in
    λ facts caller. concat-done c.args.operands.now c.in-Some.s c.in-Some.t c.in_ok-text-in-Some.text facts caller c.args.common.now new c.in_ok-came-in-Some.came c.lifted.result c.in-Some.ensures c.in_ok-text-in-Some.ensures c.in_ok-came-in-Some.ensures.row (c.lifted.ensures.row new)

pub returns-in_ok-came-in-Some-clause-stays : goal.returns-in_ok-came-in-Some-clause-stays
returns-in_ok-came-in-Some-clause-stays c = c.lifted.ensures.stays c.args.common.now c.gives_text.new.world c.in_ok-came-in-Some.ensures.stays
