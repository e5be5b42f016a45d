-- The pairs of one event, pairs that are the same, and ranks that are a numbering.
use Rattle.std.specs.Prelude.{◌≡◌, ◌==◌, ◌&&◌, ℕ, Bool, List, Option, None, Some, if◌then◌else◌, length}
use Rattle.bal_base.specs.declared.fault.Event.{Event}
use Rattle.typed_tree.specs.declared.event.Pair.{Pair}
use Rattle.worker_pairing.specs.Events.{IsNumbering}
use Rattle.worker_pairing.specs.Faults.{crew_of, pairs_on, rank_in, route}
use Rattle.worker_pairing.specs.Marks.{Members, Numbered, in_text}

-- a route where the event sends on it
abbrev pub as_send : Numbered → Option (ℕ × ℕ) → Option (ℕ × ℕ)
as_send e (Some r) = if e.worker == r.0 then Some r else None
as_send e None = None

abbrev pub sent_on : Numbered → Option (ℕ × ℕ)
sent_on e = as_send e (route e.worker e.saying.kind)

-- the pair of a send, and none of another event
abbrev pub pairs_at : Members → Numbered → List Pair
pairs_at ms e = pairs_on ms e (sent_on e)

abbrev pub same_event : Event → Event → Bool
same_event a b = (a.worker == b.worker) && ((a.number == b.number) && ((a.at.file == b.at.file) && (a.at.at == b.at.at)))

abbrev pub same_pair : Pair → Pair → Bool
same_pair a b = same_event a.send b.send && same_event a.receive b.receive

-- a rank for each event, so that they are a numbering
abbrev pub IsNumbered : Members → List ℕ → Type 0
IsNumbered ms ranks = (length ranks ≡ length (in_text ms)) × IsNumbering (crew_of ms) (rank_in ms ranks)
