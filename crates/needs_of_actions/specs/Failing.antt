-- Messages that may fail, because the worker at the other end may.
use Rattle.std.specs.Prelude.{◌≡◌, ℕ, zero, suc, Bool, true, false, List, Option, Some, None, Result, Ok, Err, slice_get, ⊤}
use Rattle.bal_base.specs.declared.fault.Fault.{Fault}
use Rattle.bal_base.specs.declared.place.Place.{Place}
use Rattle.bal_base.specs.declared.stop.Stop.{Stop}
use Rattle.bal_base.specs.declared.stop.Stop.TheVariants.{Memory, Fault as OwnFault}
use Rattle.checks.specs.Checks.{◌▷◌}
use Rattle.typed_tree.specs.declared.event.SeenEvent.{SeenEvent}
use Rattle.typed_tree.specs.declared.form.StrictForm.{StrictForm}
use Rattle.typed_tree.specs.SharedTypes.{Shared, sem_of}
use Rattle.expr_needs.specs.declared.kind.Kind.TheVariants as kind
use Rattle.check_words.specs.Actions.{NilOrErrors, flush_fails, may_fail, result_of, sent_before}
use Rattle.check_words.specs.State.{Site}
use Rattle.check_words.specs.Words.{Atoms, OfKind, Step, makes_strict}

abbrev pub one_if : Bool → ℕ
one_if true = 1
one_if false = 0

-- the worker at the other end, where it may have failed
abbrev pub if_so : Bool → ℕ → Option ℕ
if_so true w = Some w
if_so false w = None

abbrev pub failing : (ℕ → ℕ → List SeenEvent → Bool) → ℕ → List SeenEvent → Option ℕ → Option ℕ
failing fails_by own events None = None
failing fails_by own events (Some w) = if_so (fails_by own w events) w

-- so many parts are a message or a flush, which may fail as this worker may
abbrev pub makes_message_of : ℕ → StrictForm → Option ℕ → Place → Step
makes_message_of count form None at = makes_strict count form (OfKind kind.Nothing) at
makes_message_of count form (Some w) at = result_of w ▷ λ t. makes_strict count form (NilOrErrors (sem_of t)) at

-- whether the receive of a synchronous send may fail, and whether those that a flush waits for may
abbrev pub sync_fails : Place → ℕ → ℕ → List SeenEvent → Bool
sync_fails at own w events = may_fail own w (sent_before own w at events) events

abbrev pub flush_fails_at : Place → ℕ → ℕ → List SeenEvent → Bool
flush_fails_at at own w events = flush_fails own w (sent_before own w at events) events

-- why it isn't known what a worker gives
abbrev pub IsToldOf : Option (Result Shared Fault) → Stop Fault → Type 0
IsToldOf known Memory = ⊤
IsToldOf known (OwnFault f) = known ≡ Some (Err f)

-- what such a message gives
abbrev pub IsMessageType : Atoms → Site → Option ℕ → Shared → Type 0
IsMessageType env site None t = OfKind kind.Nothing env t.value
IsMessageType env site (Some w) t = (u : Shared) × (slice_get site.results w ≡ Some (Ok u)) × NilOrErrors (sem_of u) env t.value

-- why that isn't known
abbrev pub IsRefusedFor : Site → Option ℕ → Stop Fault → Type 0
IsRefusedFor site None Memory = ⊤
IsRefusedFor site None (OwnFault f) = ⊥
IsRefusedFor site (Some w) stop = IsToldOf (slice_get site.results w) stop
