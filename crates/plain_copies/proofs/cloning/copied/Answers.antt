use Rattle.std.proofs.Common.{◌∙◌, ◌+◌, ◌++◌, true, false, map, refl, sym, ap}
use Rattle.std.specs.Prelude.{nat_le}
use Rattle.std.specs.List.{sum_by}
use Rattle.std.proofs.lemmas.List.{length-map}
use Rattle.value_model.specs.Heap.{cells}
use Rattle.op_model.specs.Limits.{most_cells}
use Rattle.plain_run.specs.Held.{structure_of, world_of}
use Rattle.plain_copies.specs.Copied.{structures_copied}
use Rattle.plain_copies.proofs.Giving.{copy-same, room-same, world-same}
use Rattle.plain_copies.proofs.cloning.copied.Goals as goal

pub returns-then-not-has_room_for_all : goal.returns-then-not-has_room_for_all
returns-then-not-has_room_for_all c =
    let w = world_of c.args.world.now in
    let ns = c.as_slice-left.result.now in
    let made = c.push_copies.new.copies.items in
    let size = c.len-first.ensures.len in
    let first = size ∙ sym (length-map c.args.world.now.heap.structures structure_of) in
    let reached = c.as_slice-left.ensures.value ∙ c.in_ok-numbers.ensures in
    let copies = c.in_ok-push_copies.ensures ∙ ap (λ xs. map structure_of xs ++ structures_copied c.len-first.result ns c.args.mutable w.heap ns) c.new-made.ensures.items in (
      refl,
      room-same w c.args.v.now c.args.mutable c.len-first.result ns made first reached copies false
          ((sym c.if-not-has_room_for_all.true ∙ c.has_room_for_all.ensures) ∙ ap (λ xs. nat_le (cells w.heap + sum_by (λ s. s.greatest + 1) xs) most_cells) c.as_slice.ensures.value),
    )

pub returns : goal.returns
returns c =
    let w = world_of c.args.world.now in
    let ns = c.as_slice-left.result.now in
    let made = c.push_copies.new.copies.items in
    let size = c.len-first.ensures.len in
    let first = size ∙ sym (length-map c.args.world.now.heap.structures structure_of) in
    let reached = c.as_slice-left.ensures.value ∙ c.in_ok-numbers.ensures in
    let copies = c.in_ok-push_copies.ensures ∙ ap (λ xs. map structure_of xs ++ structures_copied c.len-first.result ns c.args.mutable w.heap ns) c.new-made.ensures.items in
    let world = world-same w c.args.v.now c.args.mutable c.len-first.result ns made first reached copies (world_of c.make_all.new.world) c.in_ok-make_all.ensures in
    let room = room-same w c.args.v.now c.args.mutable c.len-first.result ns made first reached copies true
    ((sym c.if-not-has_room_for_all.false ∙ c.has_room_for_all.ensures) ∙ ap (λ xs. nat_le (cells w.heap + sum_by (λ s. s.greatest + 1) xs) most_cells) c.as_slice.ensures.value) in
    (copy-same w c.args.v.now c.args.mutable c.len-first.result ns made first reached copies c.in_ok-copy.copy c.in_ok-copy.ensures, world, ap (λ x. nat_le (cells x.heap) most_cells) world ∙ room)
