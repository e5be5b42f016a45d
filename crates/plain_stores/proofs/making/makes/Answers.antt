use Rattle.std.proofs.Common.{◌≡◌, ◌∙◌, ◌+◌, ◌-◌, None, length, subst, ap}
use Rattle.op_model.specs.Fillers.{filler_values, fillers_from, new_ones}
use Rattle.op_model.specs.Rows.{next_structure}
use Rattle.plain_run.specs.Held.{structure_of, world_of}
use Rattle.plain_stores.specs.Changes.{AreFor, gap_of, size_behind}
use Rattle.plain_stores.proofs.Fitted.{making-past}
use Rattle.plain_stores.proofs.making.makes.Goals as goal

pub returns-in-None : goal.returns-in-None
returns-in-None c =
    let facts = c.args.facts.now in
    let w = world_of c.args.world.now in
    let s = structure_of c.args.s.now in
    let gap = c.in_ok-gap.gap.items in
    let g : c.in_ok-gap.gap.items ≡ gap_of facts w s c.args.size c.args.place = c.in_ok-gap.ensures ∙ ap (λ fs. fillers_from fs c.args.size (c.args.place - c.args.size)) c.fillers_of.ensures in
    let v : c.in_ok-inside.inside.values.items ≡ filler_values (next_structure w) gap = c.in_ok-inside.ensures.values ∙ (λ i. filler_values (c.in_ok-next.ensures i) (c.as_slice.ensures.value i)) in
    let n : c.in_ok-inside.inside.next ≡ next_structure w + length (new_ones gap) = c.in_ok-inside.ensures.next ∙ (λ i. c.in_ok-next.ensures i + length (new_ones (c.as_slice.ensures.value i))) in
    let b : c.size_behind-behind.result ≡ size_behind c.args.size c.args.place (length c.in_ok-inside.inside.values.items) = c.size_behind-behind.ensures ∙ ap (λ l. size_behind c.args.size c.args.place (length l)) c.as_slice-2.ensures.value in
    let made = subst (λ o. AreFor facts w s.greatest c.size_behind-behind.result c.as_slice-3.result.now c.in_ok-inside.inside.next o) c.in-None.is c.in_ok-structures_for.ensures in
    making-past facts w s c.args.size c.args.place gap c.in_ok-inside.inside.values.items c.in_ok-inside.inside.next c.size_behind-behind.result g v n b
    (subst (λ fs. AreFor facts w s.greatest c.size_behind-behind.result fs c.in_ok-inside.inside.next None) c.as_slice-3.ensures.value made)
