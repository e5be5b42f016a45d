-- Events of a worker by number, as a search over its tree finds them.
use Rattle.std.specs.Prelude.{◌≡◌, ◌-◌, ◌^◌, ℕ, Bool, true, List, Option, Some, None, map, slice_get}
use Rattle.bal_base.specs.declared.place.Place.{Place}
use Rattle.typed_tree.specs.declared.event.EventKind.{EventKind}
use Rattle.worker_pairing.specs.Events.{IsNth, receives_from, sends_to}
use Rattle.worker_pairing.specs.Faults.{kinds_of}
use Rattle.worker_pairing.specs.Marks.{Members, Saying}
use Rattle.worker_members.specs.Held.{kind_of}
use Rattle.worker_partners.specs.Partners.{sayings_of}
use Rattle.event_search.specs.declared.search.Found.{Found}
use Rattle.event_search.specs.declared.search.Happening.{Happening}
use Rattle.event_search.specs.declared.search.Which.{Which}
use Rattle.event_search.specs.declared.search.Which.TheVariants.{Any, SentTo, ReceivedFrom}

-- what is known of an event: what it is, its place, and whether it stands in the initial part
pub record Occurrence : Type 0 where
  pub kind : EventKind
  pub at : Place
  pub initial : Bool

abbrev pub occurrence : Saying → Occurrence
occurrence s = record { kind = s.kind; at = s.at; initial = s.initial }

abbrev pub occurrence_held : Happening → Occurrence
occurrence_held h = record { kind = kind_of h.kind; at = h.at; initial = h.initial }

-- the greatest number of 64 bits
abbrev pub most : ℕ
most = 2 ^ 64 - 1

-- the events of a worker
abbrev pub occurrences_of : Members → ℕ → List Occurrence
occurrences_of ms w = map occurrence (sayings_of ms w)

-- which events are meant
abbrev pub is_in : Which → EventKind → Bool
is_in Any = λ kind. true
is_in (SentTo w) = sends_to w
is_in (ReceivedFrom v) = receives_from v

-- the k-th of those of a worker that are meant
pub record IsNthOf (ms : Members) (w : ℕ) (which : Which) (k : ℕ) (f : Found) : Type 0 where
  pub nth : IsNth (is_in which) (kinds_of ms w) k f.number
  pub there : slice_get (occurrences_of ms w) f.number ≡ Some (occurrence_held f.event)

-- that one, or none where there is none
abbrev pub IsSearched : Members → ℕ → Which → ℕ → Option Found → Type 0
IsSearched ms w which k (Some f) = IsNthOf ms w which k f
IsSearched ms w which k None = (i : ℕ) → ¬ IsNth (is_in which) (kinds_of ms w) k i
