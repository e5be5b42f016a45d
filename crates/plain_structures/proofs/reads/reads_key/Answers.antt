use Rattle.std.proofs.Common.{ap}
use Rattle.value_model.specs.Heap.{entry_at}
use Rattle.op_model.specs.Rows.{gives}
use Rattle.op_model.specs.StructureRows.{or_nil}
use Rattle.plain_run.specs.Held.{world_of}
use Rattle.plain_structures.proofs.Finding.{mapping-row, no-mapping-row}
use Rattle.plain_structures.proofs.reads.reads_key.Goals as goal

pub returns-in-None : goal.returns-in-None
returns-in-None c =
    let w = world_of c.args.world.now in
    no-mapping-row w c.args.n (λ es. entry_at es c.args.key.now) (λ o. gives w (or_nil o)) c.in-None.ensures

pub returns-in-Some : goal.returns-in-Some
returns-in-Some c =
    let w = world_of c.args.world.now in
    mapping-row w c.args.n (λ es. entry_at es c.args.key.now) (λ o. gives w (or_nil o)) c.in-Some.v (gives w c.or_nil.result) c.in-Some.ensures (ap (gives w) c.or_nil.ensures)
