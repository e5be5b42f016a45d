use Rattle.std.proofs.Common.{◌≡◌, ◌∙◌, ◌+◌, length, rules, ◌++◌, ◌∷◌, sym, ap, map}
use Rattle.std.specs.Prelude.{nat_le}
use Rattle.std.specs.List.{sum_by}
use Rattle.std.proofs.lemmas.List.{length-map}
use Rattle.value_model.specs.Heap.{cells}
use Rattle.op_model.specs.Limits.{most_cells}
use Rattle.op_model.specs.Waits.{missing}
use Rattle.plain_run.specs.Held.{error_of, structure_of, world_of}
use Rattle.plain_strands.specs.Results.{details, errors_from, mapping_of}
use Rattle.plain_strands.proofs.Resulting.{results-past, results-there}
use Rattle.plain_strands.proofs.results.gives_results.Goals as goal

pub returns-then-not-has_room-clause-row : goal.returns-then-not-has_room-clause-row
returns-then-not-has_room-clause-row c =
    let w = world_of c.args.world.now in
    let vs = c.args.results.now in
    let errors : c.len-next.result ≡ length c.args.world.now.heap.errors.items = search rules in
    let next = errors ∙ sym (length-map c.args.world.now.heap.errors.items error_of) in
    let made = c.in_ok-made.ensures ∙ ap (λ n. mapping_of c.args.atom n c.args.names.now vs ∷ details vs) next in
    results-past w c.args.atom c.args.names.now vs c.in_ok-made.made.items made
    ((sym c.if-not-has_room.true ∙ c.has_room.ensures) ∙ ap (λ xs. nat_le (cells w.heap + (sum_by (λ s. s.greatest + 1) xs + missing vs)) most_cells) c.as_slice.ensures.value)

pub returns-clause-row : goal.returns-clause-row
returns-clause-row c =
    let w = world_of c.args.world.now in
    let vs = c.args.results.now in
    let errors : c.len-next.result ≡ length c.args.world.now.heap.errors.items = search rules in
    let next = errors ∙ sym (length-map c.args.world.now.heap.errors.items error_of) in
    let structures = c.len-there.ensures.len in
    let there = structures ∙ sym (length-map c.args.world.now.heap.structures structure_of) in
    let made = c.in_ok-made.ensures ∙ ap (λ n. mapping_of c.args.atom n c.args.names.now vs ∷ details vs) next in
    results-there w c.args.atom c.args.names.now vs c.in_ok-made.made.items c.in_ok-number.number (map error_of c.push_errors.new.errors.items) (world_of c.make_all.new.world) made
    ((sym c.if-not-has_room.false ∙ c.has_room.ensures) ∙ ap (λ xs. nat_le (cells w.heap + (sum_by (λ s. s.greatest + 1) xs + missing vs)) most_cells) c.as_slice.ensures.value)
    (c.in_ok-number.ensures ∙ there)
    (c.in_ok-push_errors.ensures ∙ ap (λ n. w.heap.errors ++ errors_from (n + 1) vs) there)
    c.in_ok-make_all.ensures
