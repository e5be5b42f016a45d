use Rattle.std.proofs.Common.{length, pos, rules}
use Rattle.value_model.specs.declared.value.Value.TheVariants.{Int}
use Rattle.op_model.specs.Rows.{gives}
use Rattle.plain_run.specs.Held.{world_of}
use Rattle.plain_structures.proofs.Finding.{list-row, no-list-row}
use Rattle.plain_library.proofs.lists.length_of.Goals as goal

pub returns-in-None : goal.returns-in-None
returns-in-None c =
    let w = world_of c.args.world.now in
    λ atom own. no-list-row w c.args.n (λ vs. length vs) (λ k. gives w (Int (pos k))) c.in-None.ensures.length

pub returns-in-Some : goal.returns-in-Some
returns-in-Some c =
    let w = world_of c.args.world.now in
    λ atom own. list-row w c.args.n (λ vs. length vs) (λ k. gives w (Int (pos k))) c.in-Some.length _ c.in-Some.ensures.length (search rules)
