use Rattle.plain_run.specs.Held.{with_world}
use Rattle.plain_structures.proofs.Doing.{mapping-done}
use Rattle.plain_structures.proofs.constructors.perform_make_mapping.Goals as goal

pub returns-clause-row : goal.returns-clause-row
returns-clause-row c =
    let old = c.args.common.now in
    let w = c.makes_mapping.new.world in
    λ facts caller. mapping-done facts caller c.args.operands.now old w c.in_ok-came.came c.performed.result (c.performed.ensures.row (with_world old w)) c.args.atom c.args.count c.args.immutable c.in_ok-came.ensures.row

pub returns-clause-stays : goal.returns-clause-stays
returns-clause-stays c = c.performed.ensures.stays c.args.common.now c.makes_mapping.new.world c.in_ok-came.ensures.stays
