use Rattle.std.proofs.Common.{rules}
use Rattle.plain_run.proofs.Doing.{negate-done}
use Rattle.plain_run.specs.Held.{with_world}
use Rattle.plain_run.proofs.values.perform_negate.Goals as goal

pub returns-in_ok-came-in-Some-clause-row : goal.returns-in_ok-came-in-Some-clause-row
returns-in_ok-came-in-Some-clause-row c =
    let old = c.args.common.now in
    let new = with_world old c.negate.new.world in
    λ facts caller. negate-done c.args.operands.now c.in-Some.a facts caller old new c.in_ok-came-in-Some.came c.lifted.result c.in-Some.ensures (search rules) (c.lifted.ensures.row new)

pub returns-in_ok-came-in-Some-clause-stays : goal.returns-in_ok-came-in-Some-clause-stays
returns-in_ok-came-in-Some-clause-stays c = c.lifted.ensures.stays c.args.common.now c.negate.new.world c.in_ok-came-in-Some.ensures.stays
