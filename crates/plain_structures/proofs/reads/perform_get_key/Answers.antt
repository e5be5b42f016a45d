use Rattle.plain_structures.proofs.Doing.{key-done, row-stays}
use Rattle.plain_structures.proofs.reads.perform_get_key.Goals as goal

pub returns-in-Some-clause-row : goal.returns-in-Some-clause-row
returns-in-Some-clause-row c =
    let all = c.args.common.now in
    λ facts caller. key-done facts caller c.args.operands.now all all.world c.reads_key.result c.performed.result (c.performed.ensures.row all) c.in-Some.n c.in-Some.key c.in-Some.ensures c.reads_key.ensures

pub returns-in-Some-clause-stays : goal.returns-in-Some-clause-stays
returns-in-Some-clause-stays c = c.performed.ensures.stays c.args.common.now c.args.common.now.world (row-stays c.args.common.now.world c.reads_key.result)
