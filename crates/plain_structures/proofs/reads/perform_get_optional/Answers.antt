use Rattle.plain_run.proofs.Operands.{one-item}
use Rattle.plain_structures.proofs.Doing.{optional-done, row-stays}
use Rattle.plain_structures.proofs.reads.perform_get_optional.Goals as goal

pub returns-in-len1-clause-row : goal.returns-in-len1-clause-row
returns-in-len1-clause-row c =
    let all = c.args.common.now in
    λ facts caller. optional-done facts caller c.args.operands.now all all.world c.reads_optional.result c.performed.result (c.performed.ensures.row all) c.v-item.result c.args.name.now (one-item c.args.operands.now c.v-item.result c.in-len1.len_at_least c.in-len1.len_below c.v-item.is) c.reads_optional.ensures

pub returns-in-len1-clause-stays : goal.returns-in-len1-clause-stays
returns-in-len1-clause-stays c = c.performed.ensures.stays c.args.common.now c.args.common.now.world (row-stays c.args.common.now.world c.reads_optional.result)
