use Rattle.std.specs.Prelude.{is_some}
use Rattle.value_model.specs.declared.value.Value.TheVariants.{Bool as Truth}
use Rattle.value_model.specs.Heap.{entry_at}
use Rattle.op_model.specs.Rows.{gives}
use Rattle.plain_run.specs.Held.{world_of}
use Rattle.plain_structures.proofs.Finding.{mapping-row, no-mapping-row}
use Rattle.plain_library.proofs.mappings.has_key_at.Goals as goal

pub returns-in-None : goal.returns-in-None
returns-in-None c =
    let w = world_of c.args.world.now in
    λ atom own. no-mapping-row w c.args.n (λ es. entry_at es c.args.key.now) (λ o. gives w (Truth (is_some o))) c.in-None.ensures

pub returns-in-Some : goal.returns-in-Some
returns-in-Some c =
    let w = world_of c.args.world.now in
    λ atom own. mapping-row w c.args.n (λ es. entry_at es c.args.key.now) (λ o. gives w (Truth (is_some o))) c.in-Some.v (gives w (Truth c.is_some.result)) c.in-Some.ensures (λ i. gives w (Truth (c.is_some.ensures i)))
