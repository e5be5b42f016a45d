use Rattle.std.proofs.Common.{rules}
use Rattle.plain_run.specs.Held.{with_world}
use Rattle.plain_structures.proofs.Doing.{char-done}
use Rattle.plain_structures.proofs.strings.perform_get_char.Goals as goal

pub returns-in_ok-came-in-Some-clause-row : goal.returns-in_ok-came-in-Some-clause-row
returns-in_ok-came-in-Some-clause-row c =
    let old = c.args.common.now in
    let w = c.reads_char.new.world in
    λ facts caller. char-done facts caller c.args.operands.now old w c.in_ok-came-in-Some.came c.lifted.result c.in-Some.text c.in-Some.i c.in-Some.ensures (search rules) (c.lifted.ensures.row (with_world old w))

pub returns-in_ok-came-in-Some-clause-stays : goal.returns-in_ok-came-in-Some-clause-stays
returns-in_ok-came-in-Some-clause-stays c = c.lifted.ensures.stays c.args.common.now c.reads_char.new.world c.in_ok-came-in-Some.ensures.stays
