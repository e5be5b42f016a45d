-- The ring that is found, as the fault that shows it.
use Rattle.std.proofs.Common.{◌≡◌, ◌∙◌, ◌<◌, ◌≤◌, ◌⊎◌, ◌+◌, ◌++◌, ℕ, List, [], ◌∷◌, Option, Some, None, Result, Ok, Err, map, get_or, length, refl, sym, subst, ap, inl, inr, arith}
use Rattle.std.specs.Prelude.{IfOk, option_map}
use Rattle.std.specs.List.{flat_map}
use Rattle.std.proofs.lemmas.Bool.{cases_lt}
use Rattle.std.proofs.lemmas.Option.{slice_get-map, slice_get_past, slice_get_read}
use Rattle.bal_base.specs.declared.fault.Event.{Event}
use Rattle.bal_base.specs.declared.fault.Fault.{Fault}
use Rattle.bal_base.specs.declared.fault.FaultCode.TheVariants.{WaitCycle}
use Rattle.bal_base.specs.declared.fault.Kept.TheVariants as kept
use Rattle.bal_base.specs.declared.place.Place.{Place}
use Rattle.checks.specs.Questions.{IsFault}
use Rattle.worker_pairing.specs.Faults.{IsRingFault, event_at, event_of}
use Rattle.worker_pairing.specs.Marks.{Members, Numbered, in_text}
use Rattle.worker_members.specs.declared.text.Standing.{Standing}
use Rattle.worker_members.specs.Held.{numbered_held}
use Rattle.worker_ranks.specs.inner.Vertices.{IsNoneBefore, IsRingAt, IsRingOf, ShowsRing, Vertex, close_of, graph_of, one_shown, place_in_text, shown, vertex_of}
use Rattle.worker_ranks.specs.declared.rings.Ring.{Ring}
use Rattle.worker_ranks.proofs.Closer.{none-before}
use Rattle.worker_ranks.proofs.Graphs.{is-graph}

module _ (ms : Members) where
  event-shown : (t : ℕ) → shown (in_text ms) t ≡ event_at ms t
  event-shown t = refl

  events-shown : (ts : List ℕ) → flat_map (shown (in_text ms)) ts ≡ flat_map (event_at ms) ts
  events-shown [] = refl
  events-shown (t ∷ ts) = λ i. event-shown t i ++ events-shown ts i

  ring-fault : (vs : List Vertex) (first : ℕ) (others : List ℕ) (f : Fault)
      → vs ≡ map (vertex_of ms) (in_text ms) → IsRingOf vs first others → ShowsRing (in_text ms) first others f → IsRingFault ms f
  ring-fault vs first others f is ring fault =
      let here : IsRingOf (map (vertex_of ms) (in_text ms)) first others = subst (λ xs. IsRingOf xs first others) is ring in (
        graph_of (map (vertex_of ms) (in_text ms)),
        first,
        others,
        is-graph ms,
        none-before ms first here.0,
        here.1,
        subst (λ es. IsFault WaitCycle (place_in_text (in_text ms) first) (kept.Events es) f) (events-shown (first ∷ others)) fault,
      )

  -- the same of what was told
  pub ring-told : {Y : Type 0} (text : List Numbered) (vs : List Vertex) (first : ℕ) (others : List ℕ) (r : Result Fault Y)
      → text ≡ in_text ms → vs ≡ map (vertex_of ms) text → IsRingOf vs first others → IfOk r (ShowsRing text first others) → IfOk r (IsRingFault ms)
  ring-told text vs first others (Ok f) is held there told =
      ring-fault vs first others f (held ∙ ap (map (vertex_of ms)) is) there (subst (λ xs. ShowsRing xs first others f) is told)
  ring-told text vs first others (Err e) is held there told = tt

-- the first that is on a ring, and the ring that begins with it
pub ring-so : {Y : Type 0} (vs : List Vertex) (n : ℕ) (r : Result Ring Y) → IsNoneBefore (close_of vs) n
    → IfOk r (λ ring. IsRingAt (graph_of vs) n ring.first ring.others.items) → IfOk r (λ ring. IsRingOf vs ring.first ring.others.items)
ring-so vs n (Ok ring) none (same, is) = (subst (IsNoneBefore (close_of vs)) (sym same) none, is)
ring-so vs n (Err e) none is = tt

-- no cycle begins with a number before the next one
pub none-before-next : {P : ℕ → Type 0} (n : ℕ) → ((i : ℕ) → i < n → P i) → P n → (i : ℕ) → i < n + 1 → P i
none-before-next {P} n before here i lt = by (cases_lt i n)
  where
    by : (i < n) ⊎ (n ≤ i) → P i
    by (inl less) = before i less
    by (inr more) = subst P (omega (arith, lt, more)) here

-- ---- an event of the text by its number

module _ (text : List Standing) (n : ℕ) where
  abbrev there : List Numbered
  there = map numbered_held text

  pub shown-there : (e : Standing) → n < length text → e ≡ get_or text n e → shown there n ≡ event_of (numbered_held e) ∷ []
  shown-there e lt at = ap one_shown (slice_get-map numbered_held text n ∙ ap (option_map numbered_held) (slice_get_read text (length text) n e refl lt at))

  pub shown-past : length text ≤ n → shown there n ≡ []
  shown-past le = ap one_shown (slice_get-map numbered_held text n ∙ ap (option_map numbered_held) (slice_get_past text n le))

  pub place-there : (e : Standing) → n < length text → e ≡ get_or text n e → Some e.said.at ≡ place_in_text there n
  place-there e lt at = sym (ap (option_map (λ e. e.saying.at)) (slice_get-map numbered_held text n ∙ ap (option_map numbered_held) (slice_get_read text (length text) n e refl lt at)))

  pub place-past : length text ≤ n → None ≡ place_in_text there n
  place-past le = sym (ap (option_map (λ e. e.saying.at)) (slice_get-map numbered_held text n ∙ ap (option_map numbered_held) (slice_get_past text n le)))

-- what a fault shows, by what that is
pub shows-so : (text : List Numbered) (first : ℕ) (others : List ℕ) (at : Option Place) (events : List Event) (f : Fault)
    → at ≡ place_in_text text first → events ≡ flat_map (shown text) (first ∷ others) → IsFault WaitCycle at (kept.Events events) f → ShowsRing text first others f
shows-so text first others at events f place all fault =
    subst (λ p. IsFault WaitCycle p (kept.Events (flat_map (shown text) (first ∷ others))) f) place (subst (λ es. IsFault WaitCycle at (kept.Events es) f) all fault)
