use Rattle.std.proofs.Common.{rules}
use Rattle.plain_run.proofs.Doing.{ints-done}
use Rattle.plain_run.specs.Held.{with_world}
use Rattle.plain_run.proofs.effect.perform_ints.Goals as goal

pub returns-in_ok-came-in-Some-clause-row : goal.returns-in_ok-came-in-Some-clause-row
returns-in_ok-came-in-Some-clause-row c =
    let old = c.args.common.now in
    let new = with_world old c.on_ints.new.world in
    λ facts caller. ints-done c.args.op c.args.operands.now c.in-Some.a c.in-Some.b facts caller old new c.in_ok-came-in-Some.came c.lifted.result c.in-Some.ensures (search rules) (c.lifted.ensures.row new)

pub returns-in_ok-came-in-Some-clause-stays : goal.returns-in_ok-came-in-Some-clause-stays
returns-in_ok-came-in-Some-clause-stays c = c.lifted.ensures.stays c.args.common.now c.on_ints.new.world c.in_ok-came-in-Some.ensures.stays
