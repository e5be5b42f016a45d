use Rattle.std.proofs.Common.{◌∙◌, ap, map}
use Rattle.std.specs.Prelude.{◌∷◌}
use Rattle.std.specs.List.{flat_map}
use Rattle.worker_members.specs.Held.{numbered_held}
use Rattle.worker_ranks.specs.inner.Vertices.{shown}
use Rattle.worker_ranks.proofs.Ringed.{shows-so}
use Rattle.worker_ranks.proofs.rings.shown_ring.Goals as goal

pub returns : goal.returns
returns c =
    let text = map numbered_held c.args.text.now in
    shows-so text c.args.ring.first c.args.ring.others.items c.place_at.result c.in_ok-events.events.items c.wait_cycle.result c.place_at.ensures
    (c.in_ok-events.ensures ∙ ap (λ os. flat_map (shown text) (c.args.ring.first ∷ os)) c.deref.ensures.value) c.wait_cycle.ensures
