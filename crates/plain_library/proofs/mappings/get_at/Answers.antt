use Rattle.value_model.specs.declared.panics.PanicName.TheVariants.{KeyNotFound}
use Rattle.value_model.specs.Heap.{entry_at}
use Rattle.op_model.specs.Rows.{found}
use Rattle.plain_run.specs.Came.{came_of}
use Rattle.plain_run.specs.Held.{world_of}
use Rattle.plain_structures.proofs.Finding.{mapping-row, no-mapping-row}
use Rattle.plain_library.proofs.mappings.get_at.Goals as goal

pub returns-in-None-clause-row : goal.returns-in-None-clause-row
returns-in-None-clause-row c =
    let w = world_of c.args.world.now in
    λ atom own. no-mapping-row w c.args.n (λ es. entry_at es c.args.key.now) (found w KeyNotFound) c.in-None.ensures

pub returns-in_ok-came-in-Some-clause-row : goal.returns-in_ok-came-in-Some-clause-row
returns-in_ok-came-in-Some-clause-row c =
    let w = world_of c.args.world.now in
    λ atom own. mapping-row w c.args.n (λ es. entry_at es c.args.key.now) (found w KeyNotFound) c.in-Some.v (came_of c.in_ok-came-in-Some.came c.found.new.world) c.in-Some.ensures c.in_ok-came-in-Some.ensures.row
