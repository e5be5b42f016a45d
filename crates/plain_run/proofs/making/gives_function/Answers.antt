use Rattle.std.proofs.Common.{rules, ◌≡◌, nat_le, length, map, ap, sym, refl, ◌∙◌, ◌+◌, arith}
use Rattle.std.proofs.lemmas.List.{length-map}
use Rattle.value_model.specs.Heap.{cells}
use Rattle.op_model.specs.Limits.{most_cells}
use Rattle.plain_run.specs.Held.{function_of, heap_of, world_of}
use Rattle.plain_run.proofs.Cells.{few-functions}
use Rattle.plain_run.proofs.Made.{function_given, pushed-held}
use Rattle.plain_run.proofs.making.gives_function.Goals as goal

pub overflow_cast-number : goal.overflow_cast-number
overflow_cast-number c =
    let l = few-functions (heap_of c.args.world.now.heap) (c.len.result + 1) (sym c.if-not-has_room_for.false ∙ c.has_room_for.ensures) in
    let m = length-map c.args.world.now.heap.functions function_of in
    let v = c.len-number.ensures.len in
    omega (arith, l, m, v)

pub returns-clause-row : goal.returns-clause-row
returns-clause-row c =
    let functions = c.args.world.now.heap.functions in
    let size : c.len.result ≡ length c.args.captured.items = search rules in
    function_given (world_of c.args.world.now) c.args.unit c.args.captured.items c.len-number.result (map function_of c.push.new.self) ((sym c.if-not-has_room_for.false ∙ c.has_room_for.ensures) ∙ ap (λ n. nat_le (cells (heap_of c.args.world.now.heap) + (n + 1)) most_cells) size)
    (c.len-number.ensures.len ∙ sym (length-map functions function_of))
    (pushed-held function_of functions c.push.new.self _ (record { unit = c.args.unit; captured = c.args.captured.items }) c.in_ok-push.ensures.pushed refl)
