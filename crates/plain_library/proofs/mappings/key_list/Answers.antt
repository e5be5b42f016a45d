use Rattle.std.proofs.Common.{◌≡◌, Some, None, rules}
use Rattle.std.specs.Prelude.{map, option_map}
use Rattle.value_model.specs.declared.value.Value.TheVariants.{Str}
use Rattle.plain_run.specs.Came.{came_of}
use Rattle.plain_run.specs.Held.{world_of}
use Rattle.plain_structures.specs.Lookups.{entries_at}
use Rattle.plain_library.proofs.Given.{mapping-of-values, no-mapping-of-values}
use Rattle.plain_library.proofs.mappings.key_list.Goals as goal

pub returns-in-None-clause-row : goal.returns-in-None-clause-row
returns-in-None-clause-row c =
    let w = world_of c.args.world.now in
    let none : None ≡ option_map (λ es. map (λ e. Str e.0) es) (entries_at w.heap c.args.n) = search rules in
    λ own. no-mapping-of-values w c.args.n (λ es. map (λ e. Str e.0) es) c.args.atom none

pub returns-in_ok-came-in-Some-clause-row : goal.returns-in_ok-came-in-Some-clause-row
returns-in_ok-came-in-Some-clause-row c =
    let w = world_of c.args.world.now in
    let some : Some c.in-Some.items.items ≡ option_map (λ es. map (λ e. Str e.0) es) (entries_at w.heap c.args.n) = search rules in
    λ own. mapping-of-values w c.args.n (λ es. map (λ e. Str e.0) es) c.args.atom c.in-Some.items.items (came_of c.in_ok-came-in-Some.came c.gives_list.new.world) some c.in_ok-came-in-Some.ensures.row
