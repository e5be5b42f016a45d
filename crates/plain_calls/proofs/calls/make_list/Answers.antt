use Rattle.std.proofs.Common.{[], ◌∷◌, Some, true, arith}
use Rattle.std.proofs.lemmas.List.{length-append, length-map}
use Rattle.value_model.specs.Heap.{Items, Structure}
use Rattle.op_model.specs.Rows.{makes, new_structure}
use Rattle.plain_run.specs.Held.{structure_of, world_of}
use Rattle.plain_run.proofs.Cells.{few-structures}
use Rattle.plain_calls.proofs.Calling.{no-more}
use Rattle.plain_calls.proofs.calls.make_list.Goals as goal

pub overflow_cast-number : goal.overflow_cast-number
overflow_cast-number c =
    let w = world_of c.args.world.now in
    let made : Structure = new_structure (Some c.args.atom) true (Items c.args.items.items) in
    let few = few-structures (makes w (made ∷ [])).heap 0 (no-more (makes w (made ∷ [])).heap c.requires) in
    let more = length-append w.heap.structures (made ∷ []) in
    let same = length-map c.args.world.now.heap.structures structure_of in
    let value = c.len-number.ensures.len in
    omega (arith, few, more, same, value)
