use Rattle.std.proofs.Common.{◌≡◌, ◌++◌, drop, map}
use Rattle.worker_pairing.specs.Marks.{numbered_from}
use Rattle.worker_members.specs.Held.{numbered_held, saying_held}
use Rattle.worker_ranks.proofs.turns.add_events.Given as goal

abbrev pub invariant-loop-said : goal.invariant-loop-said
invariant-loop-said l =
    map numbered_held l.events.items ++ numbered_from l.worker l.number (map saying_held (drop l.said-index l.sayings))
    ≡ map numbered_held l.initial.events.items ++ numbered_from l.worker 0 (map saying_held l.sayings)
