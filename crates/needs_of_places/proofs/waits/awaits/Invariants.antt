use Rattle.std.proofs.Common.{◌≡◌, drop}
use Rattle.code_needs.specs.Combining.{Needs, ◌&◌}
use Rattle.code_needs.specs.RowNeeds.{awaits}
use Rattle.needs_of_rows.specs.Finding.{Finds}
use Rattle.needs_of_places.specs.inner.Held.{held_in}
use Rattle.needs_of_places.specs.Sites.{known_at}
use Rattle.needs_of_places.proofs.waits.awaits.Given as goal

abbrev pub invariant-loop-k : goal.invariant-loop-k
invariant-loop-k l =
    (front : Needs) × Finds front l.fn.found l.found
    × (awaits (known_at l.site) (held_in l.held) 0 l.names l.taken.operands.now ≡ front & awaits (known_at l.site) (held_in l.held) l.k (drop l.k l.names) l.left)
