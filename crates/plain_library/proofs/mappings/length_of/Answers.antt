use Rattle.std.proofs.Common.{length, pos, rules}
use Rattle.value_model.specs.declared.value.Value.TheVariants.{Int}
use Rattle.op_model.specs.Rows.{gives}
use Rattle.plain_run.specs.Held.{world_of}
use Rattle.plain_structures.proofs.Finding.{mapping-row, no-mapping-row}
use Rattle.plain_library.proofs.mappings.length_of.Goals as goal

pub returns-in-None : goal.returns-in-None
returns-in-None c =
    let w = world_of c.args.world.now in
    λ atom own. no-mapping-row w c.args.n (λ es. length es) (λ k. gives w (Int (pos k))) c.in-None.ensures.length

pub returns-in-Some : goal.returns-in-Some
returns-in-Some c =
    let w = world_of c.args.world.now in
    λ atom own. mapping-row w c.args.n (λ es. length es) (λ k. gives w (Int (pos k))) c.in-Some.length _ c.in-Some.ensures.length (search rules)
