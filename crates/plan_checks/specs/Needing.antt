-- Ranks that fall from an event to what it needs.
use Rattle.std.specs.Prelude.{◌≡◌, ◌<◌, ℕ, suc, List, Some, length, slice_get}
use Rattle.typed_tree.specs.declared.event.EventKind.{EventKind}
use Rattle.worker_pairing.specs.Events.{IsNth, NeedsAs}
use Rattle.worker_pairing.specs.Faults.{crew_of, kinds_of, rank_in}
use Rattle.worker_pairing.specs.Marks.{Members}
use Rattle.event_search.specs.declared.search.Which.{Which}
use Rattle.event_search.specs.Search.{is_in}

module _ (ms : Members) (ranks : List ℕ) where
  -- the rank of the event with this number is greater than that of the one before it
  abbrev pub RisesTo : ℕ → ℕ → Type 0
  RisesTo w n = (i : ℕ) → suc i ≡ n → rank_in ms ranks w i < rank_in ms ranks w (suc i)

  -- ranks rise along the worker
  abbrev pub Rises : ℕ → Type 0
  Rises w = (i : ℕ) → suc i < length (kinds_of ms w) → rank_in ms ranks w i < rank_in ms ranks w (suc i)

  -- what the event i of w, which is this, needs has lesser ranks than so much
  abbrev pub FallsBelow : ℕ → ℕ → EventKind → ℕ → Type 0
  FallsBelow w i kind rank = (u j : ℕ) → NeedsAs (crew_of ms) kind w i u j → rank_in ms ranks u j < rank

  -- the k-th of these events has a lesser rank, if there is one
  abbrev pub NthFalls : ℕ → Which → ℕ → ℕ → Type 0
  NthFalls w which k rank = (j : ℕ) → IsNth (is_in which) (kinds_of ms w) k j → rank_in ms ranks w j < rank

  -- the end of the worker has a lesser rank
  abbrev pub LastFalls : ℕ → ℕ → Type 0
  LastFalls u rank = (j : ℕ) → suc j ≡ length (kinds_of ms u) → rank_in ms ranks u j < rank

  -- what the event i of the worker needs has lesser ranks than it, if there is that event
  abbrev pub FallsAt : ℕ → ℕ → Type 0
  FallsAt w i = (e : EventKind) → slice_get (kinds_of ms w) i ≡ Some e → FallsBelow w i e (rank_in ms ranks w i)

  -- the same of each event of the worker
  abbrev pub Falls : ℕ → Type 0
  Falls w = (i : ℕ) → FallsAt w i
