-- Where the workers of an activation stand among the events of their function, in states that are reached.
use Rattle.std.specs.Prelude.{◌≡◌, ◌<◌, ◌≤◌, ◌⊎◌, ◌+◌, ℕ, true, [], Option, Some, None, IsSomeAnd, Contains, length, slice_get, ⊤}
use Rattle.typed_tree.specs.declared.event.EventKind.{EventKind}
use Rattle.typed_tree.specs.declared.event.EventKind.TheVariants.{Send, Post, Done, Receive, Flush, Wait, End}
use Rattle.op_model.specs.Common.{Common}
use Rattle.op_model.specs.Strands.{channel_at, has_ended}
use Rattle.machine_model.specs.Machine.{Machine, State}
use Rattle.operations.specs.Talk.{Talk, Sends, Receives, Flushes, StartsWorkers, AwaitsWorkers, NoTalk}
use Rattle.worker_pairing.specs.Events.{Crew, before, events_of, receives_from, sends_to}
use Rattle.machine_model.specs.Strands.{IsUnfinished, frames_of, role_of, top_role}
use Rattle.worker_waits.specs.Waiting.{StopsAt, Waits, awaited_workers}

-- what a worker says at an event
abbrev pub to_peer : (ℕ → Talk) → Option ℕ → Talk
to_peer says (Some w) = says w
to_peer says None = NoTalk

abbrev pub said : EventKind → Talk
said (Send peer) = to_peer Sends peer
said (Post peer) = to_peer Sends peer
said (Done peer) = to_peer Flushes peer
said (Receive peer) = to_peer Receives peer
said (Flush peer) = to_peer Flushes peer
said (Wait ws) = AwaitsWorkers ws
said End = NoTalk

-- A blocked action can't be done: no message is there; or not all is received. (A wait is met by ends alone.)
abbrev pub IsUnmet : Common → (a w : ℕ) → Talk → Type 0
IsUnmet c a w (Sends v) = ⊤
IsUnmet c a w (Receives v) = (channel_at c a v w).queue ≡ []
IsUnmet c a w (Flushes v) = (channel_at c a w v).received < (channel_at c a w v).sent
IsUnmet c a w StartsWorkers = ⊤
IsUnmet c a w (AwaitsWorkers ws) = ⊤
IsUnmet c a w NoTalk = ⊤

-- each unfinished worker w of the activation a has made its first `made w` events, and no others
pub record AreAt {C : Type 0} (M : Machine C) (s : State C) (a : ℕ) (crew : Crew) (made : ℕ → ℕ) : Type 0 where
  -- its end is left
  pub left : (w : ℕ) → IsUnfinished s.common a w → made w < length (events_of crew w)
  -- the counts of messages are those of its events
  pub sent : (v w : ℕ) → IsUnfinished s.common a v → (channel_at s.common a v w).sent ≡ before (sends_to w) (events_of crew v) (made v)
  pub received : (v w : ℕ) → IsUnfinished s.common a w → (channel_at s.common a v w).received ≡ before (receives_from v) (events_of crew w) (made w)
  -- what was sent and not received is in the queue
  pub queue : (v w : ℕ) → (channel_at s.common a v w).sent ≤ length (channel_at s.common a v w).queue + (channel_at s.common a v w).received
  -- where a worker is blocked and awaits another one, its next event is what it is to do, which can't be done yet
  pub stops : (w n u : ℕ) (talk : Talk) → StopsAt M s a w n talk → IsUnfinished s.common a w → Contains (awaited_workers talk) u →
      IsSomeAnd (slice_get (events_of crew w) (made w)) (λ e. said e ≡ talk) × IsUnmet s.common a w talk

-- the last call of strand n belongs to the unfinished worker w of the activation a, which is one of so many
pub record IsLastOf {C : Type 0} (s : State C) (count n a w : ℕ) : Type 0 where
  pub strand : n < length s.common.strands
  pub activation : a < count
  pub role : top_role (frames_of s n) ≡ Some (role_of a w)
  pub unfinished : IsUnfinished s.common a w

-- Where no strand is ready or running, and only workers were started.
pub record AreStuck {C : Type 0} (M : Machine C) (s : State C) : Type 0 where
  -- how many activations there are
  pub count : ℕ
  -- a strand that hasn't ended is in a worker
  pub last : (n : ℕ) → n < length s.common.strands → (has_ended s.common n ≡ true) ⊎ ((a w : ℕ) × IsLastOf s count n a w)
  -- which waits for another worker
  pub waits : (n a w : ℕ) → IsLastOf s count n a w → (u : ℕ) × Waits M s a w u
  -- an unfinished worker is on a strand whose last call belongs to it, or to a later activation
  pub later : (a w : ℕ) → IsUnfinished s.common a w → (n b x : ℕ) × IsLastOf s count n b x × ((a < b) ⊎ ((b ≡ a) × (x ≡ w)))
