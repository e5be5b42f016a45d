-- Events as the vertices of a graph: of each so much that two of them show whether one follows or needs the other.
use Rattle.std.specs.Prelude.{◌≡◌, ◌≤◌, ◌<◌, ◌+◌, ◌++◌, ◌&&◌, ◌||◌, ◌==◌, ℕ, Bool, true, false, List, [], ◌∷◌, Option, Some, None, get_or, if◌then◌else◌, length, map, nat_lt, option_map, slice_get}
use Rattle.std.specs.List.{flat_map, list_all, list_any}
use Rattle.bal_base.specs.declared.fault.Event.{Event}
use Rattle.bal_base.specs.declared.fault.Fault.{Fault}
use Rattle.bal_base.specs.declared.fault.FaultCode.TheVariants.{WaitCycle}
use Rattle.bal_base.specs.declared.fault.Kept.TheVariants.{Events as ShowsEvents}
use Rattle.bal_base.specs.declared.place.Place.{Place}
use Rattle.checks.specs.Questions.{IsFault}
use Rattle.typed_tree.specs.declared.event.EventKind.{EventKind}
use Rattle.typed_tree.specs.declared.event.EventKind.TheVariants.{Send, Post, Done, Receive, Flush, Wait, End}
use Rattle.graphs.specs.Cycles.{IsFirstCycle, IsOnCycle}
use Rattle.worker_pairing.specs.Events.{Crew, before, events_of, receives_from, sends_to}
use Rattle.worker_pairing.specs.Faults.{crew_of, event_of}
use Rattle.worker_pairing.specs.Marks.{Members, Numbered}
use Rattle.worker_members.specs.Held.{kind_of}
use Rattle.worker_ranks.specs.declared.nodes.Edges.{Edges}
use Rattle.worker_ranks.specs.declared.nodes.Edges.TheVariants.{Close, Every}
use Rattle.worker_ranks.specs.declared.nodes.Node.{Node}

-- `place` is how many messages on its way stand before the event in its worker, and `last` whether none stands behind it there
pub record Vertex : Type 0 where
  pub worker : ℕ
  pub number : ℕ
  pub kind : EventKind
  pub place : ℕ
  pub last : Bool

abbrev pub place_in : Crew → ℕ → ℕ → EventKind → ℕ
place_in crew w i (Send (Some v)) = before (sends_to v) (events_of crew w) i
place_in crew w i (Post (Some v)) = before (sends_to v) (events_of crew w) i
place_in crew w i (Done (Some v)) = before (sends_to v) (events_of crew w) i
place_in crew w i (Flush (Some v)) = before (sends_to v) (events_of crew w) i
place_in crew w i (Receive (Some v)) = before (receives_from v) (events_of crew w) i
place_in crew w i (Send None) = 0
place_in crew w i (Post None) = 0
place_in crew w i (Done None) = 0
place_in crew w i (Flush None) = 0
place_in crew w i (Receive None) = 0
place_in crew w i (Wait ns) = 0
place_in crew w i End = 0

abbrev pub vertex_at : Crew → ℕ → ℕ → EventKind → Vertex
vertex_at crew w i kind = record { worker = w; number = i; kind = kind; place = place_in crew w i kind; last = i + 1 == length (events_of crew w) }

abbrev pub vertex_of : Members → Numbered → Vertex
vertex_of ms e = vertex_at (crew_of ms) e.worker e.number e.saying.kind

abbrev pub vertex_held : Node → Vertex
vertex_held n = record { worker = n.worker; number = n.number; kind = kind_of n.kind; place = n.place; last = n.last }

abbrev pub is_among : List ℕ → ℕ → Bool
is_among us u = list_any (λ n. n == u) us

-- the first, which is of this kind, needs the second
abbrev pub needs_other : EventKind → Vertex → Vertex → Bool
needs_other (Receive (Some v)) a b = (b.worker == v) && (sends_to a.worker b.kind && (b.place == a.place))
needs_other (Done (Some v)) a b = (b.worker == v) && (receives_from a.worker b.kind && (b.place + 1 == a.place))
needs_other (Flush (Some v)) a b = (b.worker == v) && (receives_from a.worker b.kind && nat_lt b.place a.place)
needs_other (Wait us) a b = b.last && is_among us b.worker
needs_other (Receive None) a b = false
needs_other (Done None) a b = false
needs_other (Flush None) a b = false
needs_other (Send peer) a b = false
needs_other (Post peer) a b = false
needs_other End a b = false

-- the first follows the second in its worker, or needs it
abbrev pub is_edge : Vertex → Vertex → Bool
is_edge a b = ((a.worker == b.worker) && nat_lt b.number a.number) || needs_other a.kind a b

-- the first stands right behind the second in its worker, or needs it
abbrev pub is_close : Vertex → Vertex → Bool
is_close a b = ((a.worker == b.worker) && (b.number + 1 == a.number)) || needs_other a.kind a b

abbrev pub is_edge_by : Edges → Vertex → Vertex → Bool
is_edge_by Every = is_edge
is_edge_by Close = is_close

-- the numbers, counted from this one on, of those that pass the test
abbrev pub passing : (Vertex → Bool) → ℕ → List Vertex → List ℕ
passing test n [] = []
passing test n (b ∷ bs) = (if test b then n ∷ [] else []) ++ passing test (n + 1) bs

-- of each vertex the numbers of those to which such an edge goes
abbrev pub graph_by : (Vertex → Vertex → Bool) → List Vertex → List (List ℕ)
graph_by edge vs = map (λ a. passing (edge a) 0 vs) vs

-- of each vertex the numbers of those that it follows or needs
abbrev pub graph_of : List Vertex → List (List ℕ)
graph_of = graph_by is_edge

-- the same with the one right before it alone of those that it follows
abbrev pub close_of : List Vertex → List (List ℕ)
close_of = graph_by is_close

-- ---- ranks

-- the number stands at this place, and at none before it
pub record IsFirstPlace (order : List ℕ) (number place : ℕ) : Type 0 where
  pub inside : place < length order
  pub there : get_or order place 0 ≡ number
  pub first : (other : ℕ) → other < length order → get_or order other 0 ≡ number → place ≤ other

-- each number has its first place as its rank
pub record AreRanks (order ranks : List ℕ) (count : ℕ) : Type 0 where
  pub long : length ranks ≡ count
  pub places : (number : ℕ) → number < count → IsFirstPlace order number (get_or ranks number 0)

-- ---- rings

-- no number before this one is on a cycle
abbrev pub IsNoneBefore : List (List ℕ) → ℕ → Type 0
IsNoneBefore next first = (i : ℕ) → i < first → ¬ IsOnCycle next i

-- it can't be that no number is on a cycle
abbrev pub IsCyclic : List (List ℕ) → Type 0
IsCyclic next = ¬ ((i : ℕ) → ¬ IsOnCycle next i)

-- the number is the first one that is on a cycle
abbrev pub IsFirstOnCycle : List (List ℕ) → ℕ → Type 0
IsFirstOnCycle next first = IsNoneBefore next first × IsOnCycle next first

-- these are the others of the ring that begins with the number
abbrev pub IsRingAt : List (List ℕ) → ℕ → ℕ → List ℕ → Type 0
IsRingAt next number first others = (first ≡ number) × IsFirstCycle next first others

-- of the vertices none before the first is on a cycle by close edges, and these are the first of the shortest cycles by all edges that
-- begin with it
abbrev pub IsRingOf : List Vertex → ℕ → List ℕ → Type 0
IsRingOf vs first others = IsNoneBefore (close_of vs) first × IsFirstCycle (graph_of vs) first others

-- an event as it is shown, where there is one
abbrev pub one_shown : Option Numbered → List Event
one_shown (Some e) = event_of e ∷ []
one_shown None = []

abbrev pub place_in_text : List Numbered → ℕ → Option Place
place_in_text text t = option_map (λ e. e.saying.at) (slice_get text t)

abbrev pub shown : List Numbered → ℕ → List Event
shown text t = one_shown (slice_get text t)

-- the fault shows the ring of these events of the text
abbrev pub ShowsRing : List Numbered → ℕ → List ℕ → Fault → Type 0
ShowsRing text first others f = IsFault WaitCycle (place_in_text text first) (ShowsEvents (flat_map (shown text) (first ∷ others))) f

-- from this number on, those that each is followed by have lesser ranks than it
abbrev pub falls_from : List ℕ → ℕ → List (List ℕ) → Bool
falls_from ranks n [] = true
falls_from ranks n (ts ∷ next) = list_all (λ t. nat_lt (get_or ranks t 0) (get_or ranks n 0)) ts && falls_from ranks (n + 1) next
