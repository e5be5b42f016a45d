use Rattle.std.proofs.Common.{◌≡◌, ◌∙◌, ap, map, subst}
use Rattle.std.specs.Prelude.{IfOk}
use Rattle.worker_members.specs.Held.{member_held, numbered_held}
use Rattle.worker_ranks.specs.inner.Vertices.{vertex_held, vertex_of}
use Rattle.worker_ranks.proofs.turns.group.Goals as goal

pub returns : goal.returns
returns c =
    let ms = map member_held c.args.workers.now in
    subst (λ es. IfOk c.nodes.result (λ group. map vertex_held group.items ≡ map (vertex_of ms) es)) (ap (map numbered_held) c.deref.ensures.value ∙ c.in_ok-events.ensures) c.nodes.ensures
