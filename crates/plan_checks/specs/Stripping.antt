-- Pairs that stand in front of others, and which pairs are due.
use Rattle.std.specs.Prelude.{◌≡◌, ◌==◌, ◌++◌, ◌∷◌, ℕ, Bool, true, List, [], Option, Some, None, filter, if◌then◌else◌, not}
use Rattle.std.specs.List.{flat_map}
use Rattle.bal_base.specs.declared.fault.Event.{Event}
use Rattle.typed_tree.specs.declared.event.EventKind.{EventKind}
use Rattle.typed_tree.specs.declared.event.EventKind.TheVariants.{Send, Post, Done, Receive, Flush, Wait, End}
use Rattle.typed_tree.specs.declared.event.Pair.{Pair}
use Rattle.worker_pairing.specs.Marks.{Members, Numbered, Saying}
use Rattle.worker_plans.specs.Sends.{pairs_at}
use Rattle.plan_checks.specs.declared.pairs.Part.{Part}
use Rattle.plan_checks.specs.declared.pairs.Part.TheVariants as part
use Rattle.plan_checks.specs.declared.pairs.PairEnd.{PairEnd}

-- what is left behind those that are due, or that they don't stand in front
abbrev pub Strips : List Pair → List Pair → Option (List Pair) → Type 0
Strips due given (Some rest) = given ≡ due ++ rest
Strips due given None = (rest : List Pair) → ¬ (given ≡ due ++ rest)

abbrev pub event_held : PairEnd → Event
event_held e = record { worker = e.worker; number = e.number; at = e.at }

abbrev pub pair_held : PairEnd → PairEnd → Pair
pair_held s r = record { send = event_held s; receive = event_held r }

abbrev pub is_part : Part → Bool → Bool
is_part part.Initial initial = initial
is_part part.Rest initial = not initial
is_part part.All initial = true

abbrev pub in_part : Part → Numbered → Bool
in_part p e = is_part p e.saying.initial

-- the pairs of those of these events that are in the part
abbrev pub pairs_in : Members → Part → List Numbered → List Pair
pairs_in ms p es = flat_map (pairs_at ms) (filter (in_part p) es)

abbrev pub numbered : (w i : ℕ) → Saying → Numbered
numbered w i s = record { worker = w; number = i; saying = s }

-- the event of a worker with this number, where that says something there
abbrev pub one_event : (w i : ℕ) → Option Saying → List Numbered
one_event w i (Some s) = numbered w i s ∷ []
one_event w i None = []

-- the worker to which an event of this kind of a worker sends: a message to itself is as good as sent where it is received
abbrev pub sent_by : ℕ → EventKind → Option ℕ
sent_by w (Send peer) = peer
sent_by w (Post peer) = peer
sent_by w (Receive (Some v)) = if w == v then Some v else None
sent_by w (Receive None) = None
sent_by w (Done peer) = None
sent_by w (Flush peer) = None
sent_by w (Wait ns) = None
sent_by w End = None
