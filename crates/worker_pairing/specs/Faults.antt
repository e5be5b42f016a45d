-- Which fault of a function's workers comes first, and what is made of them where there is none: checks, one behind another.
use Rattle.std.specs.Prelude.{◌≡◌, ◌<◌, ◌⊎◌, ◌↔◌, ◌++◌, ◌+◌, ◌-◌, ◌&&◌, ◌||◌, ◌==◌, ℕ, Bool, true, false, List, [], ◌∷◌, Option, Some, None, IsSomeAnd, Contains, filter, get_or, length, map, nat_le, nat_lt, not, option_map, slice_get, if◌then◌else◌}
use Rattle.std.specs.List.{flat_map}
use Rattle.bal_base.specs.declared.fault.Event.{Event}
use Rattle.bal_base.specs.declared.fault.Fault.{Fault}
use Rattle.bal_base.specs.declared.fault.FaultCode.{FaultCode}
use Rattle.bal_base.specs.declared.fault.FaultCode.TheVariants.{BadMessage, Conditional, NoPeer, SuccessBefore, Unpaired, WaitCycle, WorkerLimit}
use Rattle.bal_base.specs.declared.fault.Kept.{Kept}
use Rattle.bal_base.specs.declared.fault.Kept.TheVariants as kept
use Rattle.bal_base.specs.declared.place.Place.{Place}
use Rattle.bal_base.specs.declared.shape.Shape.{Shape}
use Rattle.type_model.specs.declared.answers.TypeLimit.{TypeLimit}
use Rattle.type_model.specs.declared.atoms.AtomDef.{AtomDef}
use Rattle.type_model.specs.declared.basic.BasicSet.TheVariants as basic
use Rattle.type_model.specs.declared.basic.SemType.{SemType, Basic, Atom, Or', And', Not'}
use Rattle.type_model.specs.Calls.{Asked, Without}
use Rattle.type_model.specs.Inclusion.{Sub, IsShapeOf}
use Rattle.type_model.specs.Membership.{In}
use Rattle.type_model.specs.SameType.{IsSameType}
use Rattle.typed_tree.specs.declared.event.EventKind.{EventKind}
use Rattle.typed_tree.specs.declared.event.EventKind.TheVariants.{Send, Post, Done, Receive, Flush, Wait, End}
use Rattle.typed_tree.specs.declared.event.Pair.{Pair}
use Rattle.typed_tree.specs.declared.event.Plan.{Plan}
use Rattle.checks.specs.Checks.{Check, Gives, Refuses, gives, gives_some, refuses, either, ◌▷◌}
use Rattle.checks.specs.Questions.{IsFault, IsTooLarge, is_below}
use Rattle.graphs.specs.Cycles.{IsFirstCycle, IsOnCycle}
use Rattle.worker_pairing.specs.Events.{Crew, IsNumbering, Needs, before, count, is_message, receives_from, sends_to}
use Rattle.worker_pairing.specs.Marks.{Member, Members, Numbered, Returning, in_text, kinds}

abbrev pub Atoms : Type 0
Atoms = List AtomDef

abbrev pub crew_of : Members → Crew
crew_of ms = map kinds ms

-- ---- checks of each in turn

-- the first of these that is bad refuses so
abbrev pub none_bad : {A : Type 0} → (A → Bool) → (A → Fault → Type 0) → List A → Check Atoms (Unit {0})
none_bad bad fault [] = gives tt
none_bad bad fault (a ∷ rest) = either (bad a) (refuses (λ _. fault a)) (none_bad bad fault rest)

abbrev pub all_pass : {A : Type 0} → (A → Check Atoms (Unit {0})) → List A → Check Atoms (Unit {0})
all_pass check [] = gives tt
all_pass check (a ∷ rest) = check a ▷ λ _. all_pass check rest

abbrev pub at_event : FaultCode → Kept → Numbered → Fault → Type 0
at_event code shown e f = IsFault code (Some e.saying.at) shown f

-- ---- limits

abbrev pub most_workers : ℕ
most_workers = 64

-- the default worker has no name
abbrev pub named_count : Members → ℕ
named_count [] = 0
named_count (own ∷ named) = length named

abbrev pub most_events : ℕ
most_events = 4096

abbrev pub within_limit : ℕ → ℕ → Place → Check Atoms (Unit {0})
within_limit most n at = either (nat_le n most) (gives tt) (refuses (λ _. IsFault WorkerLimit (Some at) (kept.Count n)))

-- ---- peers and conditions

-- the number is that of another worker of so many
abbrev pub is_other : ℕ → ℕ → Option ℕ → Bool
is_other workers own (Some n) = nat_lt n workers && not (n == own)
is_other workers own None = false

-- whom a message or a flush names is another worker of the function; a wait may name any
abbrev pub names_other : ℕ → ℕ → EventKind → Bool
names_other workers own (Send peer) = is_other workers own peer
names_other workers own (Post peer) = is_other workers own peer
names_other workers own (Done peer) = is_other workers own peer
names_other workers own (Receive peer) = is_other workers own peer
names_other workers own (Flush peer) = is_other workers own peer
names_other workers own (Wait ns) = true
names_other workers own End = true

abbrev pub has_no_peer : Members → Numbered → Bool
has_no_peer ms e = e.saying.initial || not (names_other (length ms) e.worker e.saying.kind)

abbrev pub is_conditional : Numbered → Bool
is_conditional e = e.saying.inner

-- ---- pairs

-- the sender and the receiver of the message that a worker sends or receives
abbrev pub route : ℕ → EventKind → Option (ℕ × ℕ)
route w (Send (Some v)) = Some (w, v)
route w (Post (Some v)) = Some (w, v)
route w (Receive (Some v)) = Some (v, w)
route w (Send None) = None
route w (Post None) = None
route w (Receive None) = None
route w (Done peer) = None
route w (Flush peer) = None
route w (Wait ns) = None
route w End = None

abbrev pub event_of : Numbered → Event
event_of e = record { worker = e.worker; number = e.number; at = e.saying.at }

abbrev pub pair_with : Numbered → Numbered → Pair
pair_with s r = record { send = event_of s; receive = event_of r }

module _ (ms : Members) where
  abbrev pub kinds_of : ℕ → List EventKind
  kinds_of w = get_or (crew_of ms) w []

  -- how many messages go from v to w, and how many w receives
  abbrev pub sent_in : ℕ → ℕ → ℕ
  sent_in v w = count (sends_to w) (kinds_of v)

  abbrev pub received_in : ℕ → ℕ → ℕ
  received_in v w = count (receives_from v) (kinds_of w)

  -- of an event of this route: how many of its kind stand before it, and how many there are on the other side
  abbrev pub place_on : Numbered → ℕ × ℕ → ℕ
  place_on e r = if e.worker == r.0 then before (sends_to r.1) (kinds_of e.worker) e.number else before (receives_from r.0) (kinds_of e.worker) e.number

  abbrev pub other_side : Numbered → ℕ × ℕ → ℕ
  other_side e r = if e.worker == r.0 then received_in r.0 r.1 else sent_in r.0 r.1

  abbrev pub is_left : Numbered → Option (ℕ × ℕ) → Bool
  is_left e (Some r) = nat_le (other_side e r) (place_on e r)
  is_left e None = false

  -- nothing on the other side belongs to it
  abbrev pub is_unpaired : Numbered → Bool
  is_unpaired e = is_left e (route e.worker e.saying.kind)

  abbrev pub counts : Option (ℕ × ℕ) → Kept
  counts (Some r) = kept.Counts (sent_in r.0 r.1) (received_in r.0 r.1)
  counts None = kept.Nothing

  abbrev pub unpaired_fault : Numbered → Fault → Type 0
  unpaired_fault e f = at_event Unpaired (counts (route e.worker e.saying.kind)) e f

  -- the k-th send, and the k-th receive, on a route
  abbrev pub is_nth_send : ℕ × ℕ → ℕ → Numbered → Bool
  is_nth_send r k e = (e.worker == r.0) && (sends_to r.1 e.saying.kind && (before (sends_to r.1) (kinds_of r.0) e.number == k))

  abbrev pub is_nth_receive : ℕ × ℕ → ℕ → Numbered → Bool
  is_nth_receive r k e = (e.worker == r.1) && (receives_from r.0 e.saying.kind && (before (receives_from r.0) (kinds_of r.1) e.number == k))

  -- of a send its route
  abbrev as_send : Numbered → Option (ℕ × ℕ) → Option (ℕ × ℕ)
  as_send e (Some r) = if e.worker == r.0 then Some r else None
  as_send e None = None

  abbrev pub pairs_on : Numbered → Option (ℕ × ℕ) → List Pair
  pairs_on e (Some r) = map (pair_with e) (filter (is_nth_receive r (place_on e r)) (in_text ms))
  pairs_on e None = []

  -- the pair of each send, in text order of the sends
  abbrev pub pairs_of : List Pair
  pairs_of = flat_map (λ e. pairs_on e (as_send e (route e.worker e.saying.kind))) (in_text ms)

-- ---- the numbering

-- the events in text order, each with those that it follows or needs
pub record IsGraphOf (ms : Members) (next : List (List ℕ)) : Type 0 where
  pub long : length next ≡ length (in_text ms)
  pub edges : (s t : ℕ) → Contains (get_or next s []) t ↔ IsSomeAnd (slice_get (in_text ms) s) (λ a. IsSomeAnd (slice_get (in_text ms) t) (λ b.
      ((a.worker ≡ b.worker) × (b.number < a.number)) ⊎ Needs (crew_of ms) a.worker a.number b.worker b.number))

abbrev pub event_at : Members → ℕ → List Event
event_at ms t = by (slice_get (in_text ms) t)
  where
    by : Option Numbered → List Event
    by (Some e) = event_of e ∷ []
    by None = []

abbrev pub place_at : Members → ℕ → Option Place
place_at ms t = option_map (λ e. e.saying.at) (slice_get (in_text ms) t)

-- the ring begins with the first event in text order that lies on one; it is a shortest one, and of those the one whose events come
-- first in text order
abbrev pub IsRingFault : Members → Fault → Type 0
IsRingFault ms f =
    (next : List (List ℕ)) × (first : ℕ) × (others : List ℕ) × IsGraphOf ms next
    × ((i : ℕ) → i < first → ¬ IsOnCycle next i) × IsFirstCycle next first others
    × IsFault WaitCycle (place_at ms first) (kept.Events (flat_map (event_at ms) (first ∷ others))) f

-- ---- plans

-- the rank of an event, by the ranks of all events worker by worker
abbrev pub start_of : Members → ℕ → ℕ
start_of [] w = 0
start_of (m ∷ ms) w = if w == 0 then 0 else length m.sayings + start_of ms (w - 1)

abbrev pub rank_in : Members → List ℕ → ℕ → ℕ → ℕ
rank_in ms ranks w i = get_or ranks (start_of ms w + i) 0

-- the pairs, and a rank for each event so that they are a numbering
pub record IsPlan (ms : Members) (p : Plan) : Type 0 where
  pub pairs : p.pairs ≡ pairs_of ms
  pub long : length p.ranks ≡ length (in_text ms)
  pub numbering : IsNumbering (crew_of ms) (rank_in ms p.ranks)

-- some plan, or a ring
unfoldable pub ordered : Members → Check Atoms Plan
ordered ms old (Gives p) new = IsPlan ms p × (new ≡ old)
ordered ms old (Refuses f) new = IsRingFault ms f × (new ≡ old)

-- ---- questions about types, where `passes` says which pass a limit

abbrev pub error_type : SemType
error_type = Basic basic.ErrorAll

-- both of the two types at once
abbrev pub IsBothOf : SemType → SemType → SemType → Type 0
IsBothOf s t (And' _ a _ b) = IsSameType s a × IsSameType t b
IsBothOf s t (Basic b) = ⊥
IsBothOf s t (Atom n) = ⊥
IsBothOf s t (Or' _ a _ b) = ⊥
IsBothOf s t (Not' _ a) = ⊥

module _ (passes : List AtomDef → Asked → TypeLimit → Type 0) where
  -- what is sent, or how its sender may fail, is below what is received
  unfoldable pub fits : SemType → SemType → Option Place → Check Atoms (Unit {0})
  fits s t at old (Gives u) new = Sub old s t × (new ≡ old)
  fits s t at old (Refuses f) new =
      (((x : Shape) × IsShapeOf old s x × (¬ In old x t) × IsFault BadMessage at (kept.Shape x) f) ⊎ IsTooLarge passes (Without s t) at old f) × (new ≡ old)

  -- ---- returns

  -- a return before a message of its worker gives an error
  abbrev pub return_passes : Member → Returning → Check Atoms (Unit {0})
  return_passes m r =
      either (nat_lt (before is_message (kinds m) r.before) (count is_message (kinds m)))
      (is_below passes r.type error_type (Some r.at) ▷ λ b. either b (gives tt) (refuses (λ _. IsFault SuccessBefore (Some r.at) kept.Nothing)))
      (gives tt)

  abbrev pub member_passes : Member → Check Atoms (Unit {0})
  member_passes m = all_pass (return_passes m) m.returns

  abbrev pub named_first : Members → Members
  named_first [] = []
  named_first (own ∷ named) = named ++ own ∷ []

  -- ---- messages

  -- of what is received the sender and the receiver
  abbrev pub received_on : ℕ → EventKind → Option (ℕ × ℕ)
  received_on w (Receive (Some v)) = Some (v, w)
  received_on w (Receive None) = None
  received_on w (Send peer) = None
  received_on w (Post peer) = None
  received_on w (Done peer) = None
  received_on w (Flush peer) = None
  received_on w (Wait ns) = None
  received_on w End = None

  abbrev pub result_of : Members → ℕ → SemType
  result_of ms w = get_or (map (λ m. m.result) ms) w (Basic basic.Never)

  -- a sender that may have ended early gives one of the errors among its results in place of the message
  abbrev pub failure_fits : SemType → SemType → Option Place → Check Atoms (Unit {0})
  failure_fits result t at = gives_some (λ env u. IsBothOf result error_type u) ▷ λ fail. fits fail t at

  -- the message of this send is received as such a type
  abbrev pub message_fits : Members → Numbered → Numbered → Check Atoms (Unit {0})
  message_fits ms e s =
      fits s.saying.type e.saying.type (Some e.saying.at)
      ▷ λ _. either s.saying.early (failure_fits (result_of ms s.worker) e.saying.type (Some e.saying.at)) (gives tt)

  abbrev pub from_route : Members → Numbered → Option (ℕ × ℕ) → Check Atoms (Unit {0})
  from_route ms e (Some r) = all_pass (message_fits ms e) (filter (is_nth_send ms r (place_on ms e r)) (in_text ms))
  from_route ms e None = gives tt

  -- what is received is what its send sends
  abbrev pub message_passes : Members → Numbered → Check Atoms (Unit {0})
  message_passes ms e = from_route ms e (received_on e.worker e.saying.kind)

  -- ---- all of it: the order of faults stands here alone

  -- of the workers of a function whose name stands at the place
  abbrev pub plans : Place → Members → Check Atoms Plan
  plans at ms =
      within_limit most_workers (named_count ms) at
      ▷ λ _. within_limit most_events (length (in_text ms)) at
      ▷ λ _. none_bad (has_no_peer ms) (at_event NoPeer kept.Nothing) (in_text ms)
      ▷ λ _. none_bad is_conditional (at_event Conditional kept.Nothing) (in_text ms)
      ▷ λ _. none_bad (is_unpaired ms) (unpaired_fault ms) (in_text ms)
      ▷ λ _. all_pass member_passes (named_first ms)
      ▷ λ _. all_pass (message_passes ms) (in_text ms)
      ▷ λ _. ordered ms
