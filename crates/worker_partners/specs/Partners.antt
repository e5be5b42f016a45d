-- The messages of a worker to another one, or of another one to it, one after another.
use Rattle.std.specs.Prelude.{◌≡◌, ℕ, Bool, List, [], ◌∷◌, Option, Some, None, get_or, map, slice_get}
use Rattle.typed_tree.specs.declared.event.EventKind.{EventKind}
use Rattle.worker_pairing.specs.Events.{IsNth, receives_from, sends_to}
use Rattle.worker_pairing.specs.Faults.{kinds_of}
use Rattle.worker_pairing.specs.Marks.{Members, Numbered, Saying}
use Rattle.worker_members.specs.Held.{saying_held}
use Rattle.worker_partners.specs.declared.partners.Found.{Found}
use Rattle.worker_partners.specs.declared.partners.Side.{Side}
use Rattle.worker_partners.specs.declared.partners.Side.TheVariants.{SentTo, ReceivedFrom}

abbrev pub is_on : Side → EventKind → Bool
is_on (SentTo w) = sends_to w
is_on (ReceivedFrom v) = receives_from v

abbrev pub sayings_of : Members → ℕ → List Saying
sayings_of ms w = get_or (map (λ m. m.sayings) ms) w []

-- of these messages of a worker the k-th, from 0
pub record IsFound (ms : Members) (w : ℕ) (side : Side) (k : ℕ) (f : Found) : Type 0 where
  pub nth : IsNth (is_on side) (kinds_of ms w) k f.number
  pub said : slice_get (sayings_of ms w) f.number ≡ Some (saying_held f.said)

-- that one, or none where there is none
abbrev pub IsNthFound : Members → ℕ → Side → ℕ → Option Found → Type 0
IsNthFound ms w side k (Some f) = IsFound ms w side k f
IsNthFound ms w side k None = (i : ℕ) → ¬ IsNth (is_on side) (kinds_of ms w) k i

-- as an event of the worker
abbrev pub found_held : ℕ → Found → Numbered
found_held w f = record { worker = w; number = f.number; saying = saying_held f.said }

abbrev pub listed : ℕ → Option Found → List Numbered
listed w (Some f) = found_held w f ∷ []
listed w None = []
