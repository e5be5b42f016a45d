-- Events as they are held, by what they are; and from which worker to which messages go.
use Rattle.std.specs.Prelude.{ℕ, Bool, List, map, if◌then◌else◌}
use Rattle.typed_tree.specs.declared.event.EventKind.{EventKind}
use Rattle.worker_members.specs.declared.held.Said.{Said}
use Rattle.worker_members.specs.Held.{kind_of}
use Rattle.worker_faults.specs.declared.counting.Route.{Route}

abbrev pub kinds_said : List Said → List EventKind
kinds_said = map (λ s. kind_of s.kind)

abbrev pub route_held : Route → ℕ × ℕ
route_held r = (r.from, r.to)

abbrev pub one_if : Bool → ℕ
one_if b = if b then 1 else 0
