use Rattle.std.proofs.Common.{◌≡◌, ◌++◌, drop, map}
use Rattle.std.specs.List.{flat_map}
use Rattle.worker_members.specs.Held.{members_held, numbered_held}
use Rattle.worker_plans.specs.Sends.{pairs_at}
use Rattle.worker_plans.proofs.pairs.pairs.Given as goal

abbrev pub invariant-loop-event : goal.invariant-loop-event
invariant-loop-event l =
    l.pairs.items ++ flat_map (pairs_at (members_held l.members)) (map numbered_held (drop l.event-index l.text))
    ≡ flat_map (pairs_at (members_held l.members)) (map numbered_held l.text)
