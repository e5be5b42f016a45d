-- The pair of a message is that of its send and of the receive that was found.
use Rattle.std.proofs.Common.{◌≡◌, ◌∙◌, ◌==◌, ℕ, zero, suc, Bool, true, false, List, [], ◌∷◌, Option, Some, None, map, refl, sym, subst, ap, arith}
use Rattle.std.specs.Prelude.{IsSomeAnd, filter, if◌then◌else◌, option_map, slice_get}
use Rattle.std.proofs.lemmas.Bool.{eq-eqb, eqb-true, false≢true}
use Rattle.std.proofs.lemmas.Option.{slice_get-map, slice_get_past}
use Rattle.bal_base.specs.declared.fault.Event.{Event}
use Rattle.typed_tree.specs.declared.event.EventKind.{EventKind}
use Rattle.typed_tree.specs.declared.event.EventKind.TheVariants.{Send, Post, Done, Receive, Flush, Wait, End}
use Rattle.typed_tree.specs.declared.event.Pair.{Pair}
use Rattle.typed_tree.specs.SharedTypes.{Shared}
use Rattle.worker_pairing.specs.Events.{before, receives_from, sends_to}
use Rattle.worker_pairing.specs.Faults.{event_of, is_nth_receive, kinds_of, pair_with, pairs_on, place_on, route}
use Rattle.worker_pairing.specs.Marks.{Members, Numbered, Saying, in_text}
use Rattle.worker_members.specs.declared.held.Said.{Said}
use Rattle.worker_members.specs.declared.held.SaidKind.TheVariants as said
use Rattle.worker_members.specs.declared.held.SaidType.TheVariants as said_type
use Rattle.worker_members.specs.Held.{saying_held}
use Rattle.worker_partners.specs.Partners.{listed, sayings_of}
use Rattle.worker_partners.proofs.Texts.{kind-there, kinds-said-of, receive-through}
use Rattle.worker_plans.specs.Sends.{as_send, sent_on}
use Rattle.event_search.specs.declared.search.Found.{Found}
use Rattle.event_search.specs.declared.search.Which.TheVariants.{ReceivedFrom}
use Rattle.event_search.specs.Search.{IsSearched, Occurrence, occurrence, occurrence_held, occurrences_of}
use Rattle.plan_checks.specs.Stripping.{numbered, sent_by}

-- ---- what is said of a receive, as it is held; a type stands for the references to it

abbrev held_as : Shared → Option ℕ → Saying → Said
held_as t peer s =
    record {
      kind = said.Receive peer;
      at = s.at;
      initial = s.initial;
      inner = s.inner;
      early = s.early;
      ty = said_type.Of (record { ref_ptr = (0, 0); now = record t { value = record t.value { sem = s.type } } });
    }

receive-held : (t : Shared) (s : Saying) (w : ℕ) (k : EventKind) → s.kind ≡ k → receives_from w k ≡ true → (x : Said) × (saying_held x ≡ s)
receive-held t s w (Receive peer) is on = (held_as t peer s, λ i. record { kind = sym is i; at = s.at; initial = s.initial; inner = s.inner; early = s.early; type = s.type })
receive-held t s w (Send peer) is on = absurd (false≢true on)
receive-held t s w (Post peer) is on = absurd (false≢true on)
receive-held t s w (Done peer) is on = absurd (false≢true on)
receive-held t s w (Flush peer) is on = absurd (false≢true on)
receive-held t s w (Wait ns) is on = absurd (false≢true on)
receive-held t s w End is on = absurd (false≢true on)

-- ---- the event of an occurrence

pub said-there : (ss : List Saying) (i : ℕ) (o : Occurrence) → slice_get (map occurrence ss) i ≡ Some o → (s : Saying) × (slice_get ss i ≡ Some s) × (occurrence s ≡ o)
said-there [] i o at = absurd (grind (arith, at))
said-there (s ∷ ss) zero o at = let same : occurrence s ≡ o = grind (arith, at) in (s, refl, same)
said-there (s ∷ ss) (suc i) o at = said-there ss i o at

-- ---- the pairs of a message

module _ (t : Shared) (ms : Members) (v w k : ℕ) where
  abbrev Through : Option Found → Type 0
  Through (Some f) = (x : Said) × (filter (is_nth_receive ms (v, w) k) (in_text ms) ≡ listed w (Some (record { number = f.number; said = x }))) × (x.at ≡ f.event.at)
  Through None = filter (is_nth_receive ms (v, w) k) (in_text ms) ≡ []

  through : (o : Option Found) → IsSearched ms w (ReceivedFrom v) k o → Through o
  through None none = receive-through ms v w k None none
  through (Some f) found =
      let s = said-there (sayings_of ms w) f.number (occurrence_held f.event) found.there in
      let kind : slice_get (kinds_of ms w) f.number ≡ Some s.0.kind = kind-there ms w f.number s.0 s.1 in
      let on : receives_from v s.0.kind ≡ true = subst (λ o. IsSomeAnd o (λ e. receives_from v e ≡ true)) kind found.nth.0 in
      let x = receive-held t s.0 v s.0.kind refl on in (
        x.0,
        receive-through ms v w k (Some (record { number = f.number; said = x.0 })) (record { nth = found.nth; said = s.1 ∙ ap Some (sym x.1) }),
        ap (λ y. y.at) x.1 ∙ ap (λ y. y.at) s.2,
      )

abbrev pub receive_at : ℕ → Found → Event
receive_at w f = record { worker = w; number = f.number; at = f.event.at }

abbrev pub due : Event → ℕ → Option Found → List Pair
due send w (Some f) = record { send = send; receive = receive_at w f } ∷ []
due send w None = []

pub message-due : (t : Shared) (ms : Members) (e : Numbered) (send : Event) (w k : ℕ) (o : Option Found) → event_of e ≡ send → k ≡ before (sends_to w) (kinds_of ms send.worker) send.number
    → IsSearched ms w (ReceivedFrom send.worker) k o → pairs_on ms e (Some (send.worker, w)) ≡ due send w o
message-due t ms e send w k o is place found =
    ap (λ n. map (pair_with e) (filter (is_nth_receive ms (send.worker, w) n) (in_text ms))) (sym same) ∙ by o (through t ms send.worker w k o found)
  where
    own : (e.worker == send.worker) ≡ true
    own = eq-eqb e.worker send.worker (ap (λ x. x.worker) is)

    same : k ≡ place_on ms e (send.worker, w)
    same =
        place ∙ (λ i. before (sends_to w) (kinds_of ms (sym is i).worker) (sym is i).number)
        ∙ sym (ap (λ b. if b then before (sends_to w) (kinds_of ms e.worker) e.number else before (receives_from send.worker) (kinds_of ms e.worker) e.number) own)

    by : (o : Option Found) → Through t ms send.worker w k o → map (pair_with e) (filter (is_nth_receive ms (send.worker, w) k) (in_text ms)) ≡ due send w o
    by None none = ap (map (pair_with e)) none
    by (Some f) (x, one, at) =
        ap (map (pair_with e)) one
        ∙ (λ i. record { send = is i; receive = record { worker = w; number = f.number; at = at i } } ∷ [])

-- ---- which events send

abbrev sent_of : ℕ → Option (ℕ × ℕ) → Option (ℕ × ℕ)
sent_of w (Some r) = if w == r.0 then Some r else None
sent_of w None = None

by-fields : (e : Numbered) (w : ℕ) (k : EventKind) → e.worker ≡ w → e.saying.kind ≡ k → sent_on e ≡ sent_of w (route w k)
by-fields e w k worker kind = as-sent e (route e.worker e.saying.kind) ∙ (λ i. sent_of (worker i) (route (worker i) (kind i)))
  where
    as-sent : (e : Numbered) (r : Option (ℕ × ℕ)) → as_send e r ≡ sent_of e.worker r
    as-sent e (Some r) = refl
    as-sent e None = refl

abbrev if_so : Bool → ℕ × ℕ → Option (ℕ × ℕ)
if_so b r = if b then Some r else None

abbrev if_peer : ℕ → ℕ → Bool → Option (ℕ × ℕ)
if_peer w v b = option_map (λ u. (w, u)) (if b then Some v else None)

-- a message of a worker to itself
own-kind : (w v : ℕ) (b : Bool) → (w == v) ≡ b → if_so (w == v) (v, w) ≡ if_peer w v (w == v)
own-kind w v true is =
    let same : w ≡ v = eqb-true w v is in
    ap (λ b. if_so b (v, w)) is ∙ (λ i. Some (sym same i, same i)) ∙ sym (ap (if_peer w v) is)
own-kind w v false is = ap (λ b. if_so b (v, w)) is ∙ sym (ap (if_peer w v) is)

by-kind : (w : ℕ) (k : EventKind) → sent_of w (route w k) ≡ option_map (λ v. (w, v)) (sent_by w k)
by-kind w (Send (Some v)) = ap (λ b. if_so b (w, v)) (eq-eqb w w refl)
by-kind w (Post (Some v)) = ap (λ b. if_so b (w, v)) (eq-eqb w w refl)
by-kind w (Receive (Some v)) = own-kind w v (w == v) refl
by-kind w (Send None) = refl
by-kind w (Post None) = refl
by-kind w (Receive None) = refl
by-kind w (Done peer) = refl
by-kind w (Flush peer) = refl
by-kind w (Wait ns) = refl
by-kind w End = refl

pub sent-so : (w i : ℕ) (s : Saying) (k : EventKind) (o : Option ℕ) → o ≡ sent_by w k → s.kind ≡ k → sent_on (numbered w i s) ≡ option_map (λ v. (w, v)) o
sent-so w i s k o is kind = by-fields (numbered w i s) w k refl kind ∙ by-kind w k ∙ ap (option_map (λ v. (w, v))) (sym is)

pub none-there : (ms : Members) (w i : ℕ) → None ≡ slice_get (occurrences_of ms w) i → slice_get (sayings_of ms w) i ≡ None
none-there ms w i at = by (sayings_of ms w) i at
  where
    by : (ss : List Saying) (i : ℕ) → None ≡ slice_get (map occurrence ss) i → slice_get ss i ≡ None
    by [] i at = slice_get_past [] i (omega arith)
    by (s ∷ ss) zero at = absurd (grind (arith, at))
    by (s ∷ ss) (suc i) at = by ss i at

-- ---- the kind of an event that is there

pub kind-found : (ms : Members) (w i : ℕ) (o : Occurrence) → Some o ≡ slice_get (occurrences_of ms w) i → slice_get (kinds_of ms w) i ≡ Some o.kind
kind-found ms w i o at =
    let s = said-there (sayings_of ms w) i o (sym at) in
    kind-there ms w i s.0 s.1 ∙ ap (λ x. Some x.kind) s.2

pub kind-none : (ms : Members) (w i : ℕ) → None ≡ slice_get (occurrences_of ms w) i → slice_get (kinds_of ms w) i ≡ None
kind-none ms w i at =
    ap (λ es. slice_get es i) (kinds-said-of ms w) ∙ slice_get-map (λ s. s.kind) (sayings_of ms w) i ∙ ap kind_in (none-there ms w i at)
  where
    kind_in : Option Saying → Option EventKind
    kind_in (Some s) = Some s.kind
    kind_in None = None
