use Rattle.std.proofs.Common.{length, map, nat_le, ap, sym, ◌∙◌, ◌+◌, arith, false, None}
use Rattle.value_model.specs.Heap.{Entries, cells}
use Rattle.op_model.specs.Limits.{most_cells}
use Rattle.op_model.specs.Rows.{new_structure}
use Rattle.std.proofs.lemmas.List.{length-map}
use Rattle.plain_run.specs.Held.{heap_of, world_of, structure_of, error_of}
use Rattle.plain_run.proofs.Cells.{few-structures, few-errors}
use Rattle.plain_run.proofs.Made.{error-made, pushed-held}
use Rattle.plain_run.proofs.world.make_error.Goals as goal

pub overflow_cast-detail : goal.overflow_cast-detail
overflow_cast-detail c =
    let l = few-structures (heap_of c.args.world.now.heap) (c.len-greatest.result + 2) (sym c.if-not-has_room_for.false ∙ c.has_room_for.ensures) in
    let m = length-map c.args.world.now.heap.structures structure_of in
    let v = c.len-detail.ensures.len in
    omega (arith, l, m, v)

pub overflow_cast-number : goal.overflow_cast-number
overflow_cast-number c =
    let l = few-errors (heap_of c.args.world.now.heap) (c.len-greatest.result + 2) (sym c.if-not-has_room_for.false ∙ c.has_room_for.ensures) in
    let m = length-map c.args.world.now.heap.errors.items error_of in
    let v = ap length c.as_slice.ensures.value in
    omega (arith, l, m, v)

pub returns : goal.returns
returns c =
    let w = world_of c.args.world.now in
    let structures = c.args.world.now.heap.structures in
    let errors = c.args.world.now.heap.errors.items in
    let size = c.len-greatest.ensures.len in
    error-made w c.args.message c.args.cause c.args.details (length c.as_slice.result.now) (map structure_of c.push.new.self) (map error_of c.push-2.new.self.items)
    ((sym c.if-not-has_room_for.false ∙ c.has_room_for.ensures) ∙ ap (λ n. nat_le (cells w.heap + (n + 2)) most_cells) size)
    (ap length c.as_slice.ensures.value ∙ sym (length-map errors error_of))
    (pushed-held structure_of structures c.push.new.self _ (new_structure None false (Entries c.args.details)) c.in_ok-push.ensures.pushed (λ i. record { atom = None; mutable = false; members = Entries c.args.details; greatest = size i }))
    (pushed-held error_of errors c.push-2.new.self.items _ (record { message = c.args.message; cause = c.args.cause; detail = length (map structure_of structures) }) c.in_ok-push-2.ensures.items
    (λ i. record { message = c.args.message; cause = c.args.cause; detail = (c.len-detail.ensures.len ∙ sym (length-map structures structure_of)) i }))
