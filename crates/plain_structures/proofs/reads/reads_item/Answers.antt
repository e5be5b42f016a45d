use Rattle.std.proofs.Common.{◌≡◌, Some, None, rules}
use Rattle.std.specs.Prelude.{option_map}
use Rattle.value_model.specs.declared.panics.PanicName.TheVariants.{IndexOutOfRange}
use Rattle.op_model.specs.Rows.{found}
use Rattle.op_model.specs.StructureRows.{at_place}
use Rattle.plain_run.specs.Came.{came_of}
use Rattle.plain_run.specs.Held.{world_of}
use Rattle.plain_structures.specs.Lookups.{items_at}
use Rattle.plain_structures.proofs.Finding.{list-row, no-list-row}
use Rattle.plain_structures.proofs.reads.reads_item.Goals as goal

pub returns-in-None-clause-row : goal.returns-in-None-clause-row
returns-in-None-clause-row c =
    let w = world_of c.args.world.now in
    let none : None ≡ option_map (λ vs. at_place vs c.args.i) (items_at w.heap c.args.n) = search rules in
    no-list-row w c.args.n (λ vs. at_place vs c.args.i) (found w IndexOutOfRange) none

pub returns-in_ok-came-in-Some-clause-row : goal.returns-in_ok-came-in-Some-clause-row
returns-in_ok-came-in-Some-clause-row c =
    let w = world_of c.args.world.now in
    let some : Some c.in-Some.item ≡ option_map (λ vs. at_place vs c.args.i) (items_at w.heap c.args.n) = search rules in
    list-row w c.args.n (λ vs. at_place vs c.args.i) (found w IndexOutOfRange) c.in-Some.item (came_of c.in_ok-came-in-Some.came c.found.new.world) some c.in_ok-came-in-Some.ensures.row
