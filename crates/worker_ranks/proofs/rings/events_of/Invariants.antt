use Rattle.std.proofs.Common.{◌≡◌, ◌++◌, ◌∷◌, drop, map}
use Rattle.std.specs.List.{flat_map}
use Rattle.worker_members.specs.Held.{numbered_held}
use Rattle.worker_ranks.specs.inner.Vertices.{shown}
use Rattle.worker_ranks.proofs.rings.events_of.Given as goal

abbrev pub invariant-loop-number : goal.invariant-loop-number
invariant-loop-number l =
    l.events.items ++ flat_map (shown (map numbered_held l.text)) (drop l.number-index l.others)
    ≡ flat_map (shown (map numbered_held l.text)) (l.first ∷ l.others)
