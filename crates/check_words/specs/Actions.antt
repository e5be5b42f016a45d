-- What it means that the needs of waits and messages are met (Ballerina specification, "Wait action", "Receive action", "Send action",
-- "Flush action").
use Rattle.std.specs.Prelude.{◌≡◌, ◌⊎◌, ◌==◌, ◌&&◌, ℕ, zero, suc, Bool, true, false, not, List, [], ◌∷◌, Any, filter, is_none, length, map, take_while, Option, Some, None, Result, Ok, Err, slice_get}
use Rattle.std.specs.List.{AllZip}
use Rattle.bal_base.specs.declared.fault.Fault.{Fault}
use Rattle.bal_base.specs.declared.fault.FaultCode.TheVariants.{NeedsType}
use Rattle.bal_base.specs.declared.place.Place.{Place}
use Rattle.bal_base.specs.declared.text.Name.{Name}
use Rattle.bal_tree.specs.declared.action.Peer.{Peer}
use Rattle.bal_tree.specs.declared.action.Peer.TheVariants as peer
use Rattle.bal_tree.specs.declared.name.QualifiedName.{QualifiedName}
use Rattle.checks.specs.Checks.{Check, gives, gives_some, refuses, ◌▷◌}
use Rattle.checks.specs.Questions.{adds}
use Rattle.descriptors.specs.declared.names.Names.{Names}
use Rattle.descriptors.specs.Described.{IsCopy, IsPlain, plain}
use Rattle.operations.specs.Kinds.{IsError, IsNil}
use Rattle.type_model.specs.declared.answers.Keys.TheVariants.{Results}
use Rattle.type_model.specs.declared.answers.TypeLimit.{TypeLimit}
use Rattle.type_model.specs.declared.atoms.AtomDef.{AtomDef}
use Rattle.type_model.specs.declared.atoms.AtomDef.TheVariants.{Mapping as MappingAtom}
use Rattle.type_model.specs.declared.basic.SemType.{SemType, Atom}
use Rattle.type_model.specs.declared.basic.Ty.{Ty}
use Rattle.type_model.specs.Calls.{Asked}
use Rattle.type_model.specs.Membership.{In}
use Rattle.typed_tree.specs.declared.event.SeenEvent.{SeenEvent}
use Rattle.typed_tree.specs.declared.form.StrictForm.{StrictForm}
use Rattle.typed_tree.specs.declared.form.StrictForm.TheVariants as form
use Rattle.typed_tree.specs.SharedTypes.{Shared, sem_of}
use Rattle.typed_tree.specs.Skeleton.{other_than}
use Rattle.worker_pairing.specs.Events.{receives_from, sends_to}
use Rattle.expr_needs.specs.declared.expected.Expected.{Expected}
use Rattle.expr_needs.specs.declared.expected.Expected.TheVariants as expected
use Rattle.expr_needs.specs.declared.kind.Kind.TheVariants as kind
use Rattle.check_words.specs.Constructors.{fields_with}
use Rattle.check_words.specs.Members.{member_at}
use Rattle.check_words.specs.Seen.{worker_from, worker_named}
use Rattle.check_words.specs.State.{Site, State}
use Rattle.check_words.specs.Values.{gives_named}
use Rattle.check_words.specs.Words.{Atoms, EitherOf, OfKind, Step, asking, closes_constructor, fails, is_of, last_part, last_want, last_wants, makes_strict, makes_typed, sem, unit_now, wants, wants_no_more, wants_some}

-- ---- the workers of the function

abbrev pub site_now : Check State Site
site_now = gives_some (λ s site. site ≡ s.site)

-- what a worker gives; the fault of the descriptor that says so, where it has one
abbrev pub known_result : Option (Result Shared Fault) → Check State Shared
known_result (Some (Ok t)) = gives t
known_result (Some (Err fault)) = refuses (λ s f. f ≡ fault)
known_result None = gives_some (λ s t. ⊥)

abbrev pub result_of : ℕ → Check State Shared
result_of w = site_now ▷ λ site. known_result (slice_get site.results w)

-- the other worker that a worker names
abbrev pub peer_named : List Name → ℕ → Peer → Option ℕ
peer_named workers own (peer.Word w) = other_than own (worker_from 1 workers w.name)
peer_named workers own (peer.Function at) = other_than own (Some 0)

-- the worker that an action of the unit at hand names
abbrev pub peer_of : Peer → Check State (Option ℕ)
peer_of p = site_now ▷ λ site. unit_now ▷ λ u. gives (peer_named site.workers u.worker p)

-- ---- waits

-- the workers that are named; none stands for a future
abbrev pub awaited : Site → List QualifiedName → List (Option ℕ)
awaited site names = map (worker_named site.workers) names

-- how many futures are among them
abbrev pub futures : List (Option ℕ) → ℕ
futures ws = length (filter is_none ws)

-- the types of what is wanted
abbrev pub ArePresent : List (Option Shared) → List Shared → Type 0
ArePresent ws ts = ws ≡ map Some ts

abbrev pub takes_wants : ℕ → Check State (List Shared)
takes_wants count = last_wants count ▷ λ ws. gives_some (λ s ts. ArePresent ws ts) ▷ λ ts. wants_no_more count ▷ λ u. gives ts

-- one name gives what is known of it, several the union, and none nothing
abbrev pub IsOfAny : List Shared → Atoms → Ty → Type 0
IsOfAny [] env t = IsPlain (λ x. ⊥) env t
IsOfAny (u ∷ []) env t = t ≡ u.value
IsOfAny (u ∷ v ∷ more) env t = IsPlain (λ x. Any (λ w. In env x (sem_of w)) (u ∷ v ∷ more)) env t

abbrev pub waits_for_any : List QualifiedName → Place → Step
waits_for_any names at =
    site_now ▷ λ site. takes_wants (length names) ▷ λ ts.
    makes_strict (futures (awaited site names)) (form.WaitAny (awaited site names)) (IsOfAny ts) at

-- a closed record of what the names give
abbrev pub IsOfAll : List (Option (List ℕ)) → List Shared → List AtomDef → Type 0
IsOfAll keys ts defs =
    (types : List Ty) × AllZip (λ t u. IsCopy t.value u) ts types × (defs ≡ MappingAtom (fields_with keys types) None ∷ [])

abbrev pub waits_for_all : List QualifiedName → Place → Step
waits_for_all names at =
    site_now ▷ λ site. closes_constructor ▷ λ c. takes_wants (length names) ▷ λ ts.
    asking (adds (λ env. IsOfAll c.keys ts) (Some at)) ▷ λ atom.
    makes_strict (futures (awaited site names)) (form.WaitAll atom (awaited site names)) (λ env t. t ≡ plain (Atom atom)) at

-- ---- receives

-- what is wanted is the type
abbrev pub receives_as : Option Shared → Peer → Place → Step
receives_as None peer at = fails NeedsType at
receives_as (Some t) peer at = peer_of peer ▷ λ p. makes_typed 0 (form.Receive p) t at

abbrev pub receives : Expected → Peer → Place → Step
receives expected.Nothing peer at = receives_as None peer at
receives expected.Immutable peer at = receives_as None peer at
receives expected.Wanted peer at = last_want ▷ λ w. receives_as w peer at

-- ---- what a message may fail with

-- the events of a worker, and those of them before the one that this action is
abbrev pub events_in : ℕ → List SeenEvent → List SeenEvent
events_in w events = filter (λ e. e.event.worker == w) events

abbrev pub is_at : Place → SeenEvent → Bool
is_at at e = (e.event.at.file == at.file) && (e.event.at.at == at.at)

abbrev pub events_before : Place → List SeenEvent → List SeenEvent
events_before at events = take_while (λ e. not (is_at at e)) events

-- how many messages to the peer stand before the action
abbrev pub sent_before : ℕ → ℕ → Place → List SeenEvent → ℕ
sent_before own peer at events = length (filter (λ e. sends_to peer e.kind) (events_before at (events_in own events)))

-- the receive of the message with this number from `own`, and whether its worker may have failed before it: no partner, no failure
abbrev pub fails_at : Option SeenEvent → Bool
fails_at None = false
fails_at (Some e) = e.after_early

abbrev pub may_fail : ℕ → ℕ → ℕ → List SeenEvent → Bool
may_fail own peer number events =
    fails_at (slice_get (filter (λ e. receives_from own e.kind) (events_in peer events)) number)

-- a flush waits for the last of the messages before it, if there is one
abbrev pub flush_fails : ℕ → ℕ → ℕ → List SeenEvent → Bool
flush_fails own peer zero events = false
flush_fails own peer (suc last) events = may_fail own peer last events

-- nil, and where the peer may have failed, the errors among its results
abbrev pub NilOrErrors : SemType → Atoms → Ty → Type 0
NilOrErrors result env = IsPlain (λ x. IsNil x ⊎ (In env x result × IsError x)) env

-- so many parts are a message or a flush, which may fail so
abbrev pub makes_message : Bool → ℕ → StrictForm → ℕ → Place → Step
makes_message false count form peer at = makes_strict count form (OfKind kind.Nothing) at
makes_message true count form peer at = result_of peer ▷ λ t. makes_strict count form (NilOrErrors (sem_of t)) at

-- nobody fails who is no worker of the function
abbrev pub message_to : (ℕ → ℕ → List SeenEvent → Bool) → ℕ → StrictForm → Option ℕ → Place → Step
message_to fails_by count form None at = makes_strict count form (OfKind kind.Nothing) at
message_to fails_by count form (Some peer) at =
    site_now ▷ λ site. unit_now ▷ λ u. makes_message (fails_by u.worker peer site.events) count form peer at

abbrev pub sends : Peer → Place → Step
sends peer at = peer_of peer ▷ λ p. makes_strict 1 (form.Send p) (OfKind kind.Nothing) at

abbrev pub sends_and_waits : Peer → Place → Step
sends_and_waits peer at =
    peer_of peer ▷ λ p. message_to (λ own w events. may_fail own w (sent_before own w at events) events) 1 (form.SyncSend p) p at

abbrev pub flushes : Peer → Place → Step
flushes peer at =
    peer_of peer ▷ λ p. message_to (λ own w events. flush_fails own w (sent_before own w at events) events) 0 (form.Flush p) p at

-- ---- names in waits

module _ (passes : List AtomDef → Asked → TypeLimit → Type 0) (names : Names) where
  -- a future gives a result, or an error where it was taken before
  abbrev pub awaits_future : QualifiedName → Step
  awaits_future q =
      gives_named names q ▷ λ u. is_of passes kind.AnyFuture q.at ▷ λ v. last_part ▷ λ e.
      member_at passes (sem e) Results q.at ▷ λ m. wants_some (EitherOf m IsError)

  abbrev pub awaits_by : QualifiedName → Option ℕ → Step
  awaits_by q (Some w) = result_of w ▷ λ t. wants (Some t)
  awaits_by q None = awaits_future q

  abbrev pub awaits : QualifiedName → Step
  awaits q = site_now ▷ λ site. awaits_by q (worker_named site.workers q)
