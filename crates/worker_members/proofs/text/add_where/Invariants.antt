use Rattle.std.proofs.Common.{◌≡◌, ◌++◌, map, take}
use Rattle.std.specs.Prelude.{filter}
use Rattle.worker_members.specs.Held.{numbered_held}
use Rattle.worker_members.specs.inner.Standings.{is_where}
use Rattle.worker_members.proofs.text.add_where.Given as goal

abbrev pub invariant-loop-event : goal.invariant-loop-event
invariant-loop-event l =
    map numbered_held l.text.items ≡ map numbered_held l.initial.text.items ++ filter (is_where l.first) (map numbered_held (take l.event-index l.events))
