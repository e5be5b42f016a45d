use Rattle.std.proofs.Common.{map, sym, refl, ◌∙◌, ◌+◌, arith}
use Rattle.std.proofs.lemmas.List.{length-map}
use Rattle.plain_run.specs.Held.{heap_of, structure_of, world_of}
use Rattle.plain_run.proofs.Cells.{few-structures}
use Rattle.plain_run.proofs.Made.{pushed-held, structure_given}
use Rattle.plain_run.proofs.making.gives_structure.Goals as goal

pub overflow_cast-number : goal.overflow_cast-number
overflow_cast-number c =
    let l = few-structures (heap_of c.args.world.now.heap) (c.args.made.greatest + 1) (sym c.if-not-has_room_for.false ∙ c.has_room_for.ensures) in
    let m = length-map c.args.world.now.heap.structures structure_of in
    let v = c.len-number.ensures.len in
    omega (arith, l, m, v)

pub returns-clause-row : goal.returns-clause-row
returns-clause-row c =
    let structures = c.args.world.now.heap.structures in
    structure_given (world_of c.args.world.now) (structure_of c.args.made) c.len-number.result (map structure_of c.push.new.self) (sym c.if-not-has_room_for.false ∙ c.has_room_for.ensures)
    (c.len-number.ensures.len ∙ sym (length-map structures structure_of))
    (pushed-held structure_of structures c.push.new.self _ (structure_of c.args.made) c.in_ok-push.ensures.pushed refl)
