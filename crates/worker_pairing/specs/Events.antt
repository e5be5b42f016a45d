-- The events of a function's workers, which messages belong together, and what each event needs. Events of a worker are numbered from
-- 0; the last one is its end.
use Rattle.std.specs.Prelude.{◌≡◌, ◌<◌, ◌+◌, ◌==◌, ℕ, suc, Bool, true, false, List, [], ◌∷◌, Option, Some, None, IsSomeAnd, Contains, get_or, length, slice_get, take, if◌then◌else◌}
use Rattle.typed_tree.specs.declared.event.EventKind.{EventKind}
use Rattle.typed_tree.specs.declared.event.EventKind.TheVariants.{Send, Post, Done, Receive, Flush, Wait, End}

-- by worker, the default one first
abbrev pub Crew : Type 0
Crew = List (List EventKind)

abbrev pub events_of : Crew → ℕ → List EventKind
events_of crew w = get_or crew w []

-- ---- messages

abbrev pub is_peer : ℕ → Option ℕ → Bool
is_peer w (Some n) = n == w
is_peer w None = false

-- a message goes to this worker
abbrev pub sends_to : ℕ → EventKind → Bool
sends_to w (Send peer) = is_peer w peer
sends_to w (Post peer) = is_peer w peer
sends_to w (Done peer) = false
sends_to w (Receive peer) = false
sends_to w (Flush peer) = false
sends_to w (Wait ns) = false
sends_to w End = false

-- a message of this worker is received
abbrev pub receives_from : ℕ → EventKind → Bool
receives_from w (Send peer) = false
receives_from w (Post peer) = false
receives_from w (Done peer) = false
receives_from w (Receive peer) = is_peer w peer
receives_from w (Flush peer) = false
receives_from w (Wait ns) = false
receives_from w End = false

abbrev pub is_message : EventKind → Bool
is_message (Send peer) = true
is_message (Post peer) = true
is_message (Receive peer) = true
is_message (Done peer) = false
is_message (Flush peer) = false
is_message (Wait ns) = false
is_message End = false

-- how many of these events there are
abbrev pub count : (EventKind → Bool) → List EventKind → ℕ
count is [] = 0
count is (e ∷ es) = (if is e then 1 else 0) + count is es

-- how many there are before an event
abbrev pub before : (EventKind → Bool) → List EventKind → ℕ → ℕ
before is es i = count is (take i es)

-- the event with this number is the k-th of these, from 0
abbrev pub IsNth : (EventKind → Bool) → List EventKind → ℕ → ℕ → Type 0
IsNth is es k i = IsSomeAnd (slice_get es i) (λ e. is e ≡ true) × (before is es i ≡ k)

module _ (crew : Crew) where
  -- the k-th message from v to w: the event of v that sends it, and that of w that receives it
  abbrev pub IsSent : (v w k i : ℕ) → Type 0
  IsSent v w k i = IsNth (sends_to w) (events_of crew v) k i

  abbrev pub IsReceived : (v w k j : ℕ) → Type 0
  IsReceived v w k j = IsNth (receives_from v) (events_of crew w) k j

  -- how many messages go from v to w, and how many w receives
  abbrev pub sent : ℕ → ℕ → ℕ
  sent v w = count (sends_to w) (events_of crew v)

  abbrev pub received : ℕ → ℕ → ℕ
  received v w = count (receives_from v) (events_of crew w)

  abbrev pub ArePaired : Type 0
  ArePaired = (v w : ℕ) → sent v w ≡ received v w

  -- ---- what events need

  -- the event i of w, which is this, needs the event j of u: a receive its send or post; the end of a synchronous send its
  -- receive; a flush the receives of all that was sent to the peer before it; and a wait the ends of all its workers
  abbrev pub NeedsAs : EventKind → (w i u j : ℕ) → Type 0
  NeedsAs (Receive (Some v)) w i u j = (u ≡ v) × IsSent v w (before (receives_from v) (events_of crew w) i) j
  NeedsAs (Done (Some v)) w i u j = (u ≡ v) × ((k : ℕ) × (suc k ≡ before (sends_to v) (events_of crew w) i) × IsReceived w v k j)
  NeedsAs (Flush (Some v)) w i u j = (u ≡ v) × ((k : ℕ) × (k < before (sends_to v) (events_of crew w) i) × IsReceived w v k j)
  NeedsAs (Wait us) w i u j = Contains us u × (suc j ≡ length (events_of crew u))
  NeedsAs (Send peer) w i u j = ⊥
  NeedsAs (Post peer) w i u j = ⊥
  NeedsAs (Receive None) w i u j = ⊥
  NeedsAs (Done None) w i u j = ⊥
  NeedsAs (Flush None) w i u j = ⊥
  NeedsAs End w i u j = ⊥

  abbrev pub Needs : (w i u j : ℕ) → Type 0
  Needs w i u j = IsSomeAnd (slice_get (events_of crew w) i) (λ e. NeedsAs e w i u j)

  -- ranks of the events that rise along each worker, and from what an event needs to it
  pub record IsNumbering (rank : ℕ → ℕ → ℕ) : Type 0 where
    pub rises : (w i j : ℕ) → i < j → j < length (events_of crew w) → rank w i < rank w j
    pub follows : (w i u j : ℕ) → Needs w i u j → rank u j < rank w i

  -- there is such a numbering
  abbrev pub IsOrderable : Type 0
  IsOrderable = (rank : ℕ → ℕ → ℕ) × IsNumbering rank
