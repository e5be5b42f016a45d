-- Messages and flushes: what is made is what the needs mean.
use Rattle.std.proofs.Common.{◌≡◌, ◌++◌, ℕ, Bool, true, false, List, [], ◌∷◌, Option, Some, None, Result, Ok, Err}
use Rattle.bal_base.specs.declared.fault.Fault.{Fault}
use Rattle.bal_base.specs.declared.place.Place.{Place}
use Rattle.bal_base.specs.declared.stop.Stop.{Stop}
use Rattle.bal_base.specs.declared.stop.Stop.TheVariants.{Memory, Fault as OwnFault}
use Rattle.checks.specs.Checks.{Comes}
use Rattle.checks.proofs.Steps.{ran_out, stops}
use Rattle.typed_tree.specs.declared.event.SeenEvent.{SeenEvent}
use Rattle.typed_tree.specs.declared.expr.TypedExpr.{TypedExpr}
use Rattle.typed_tree.specs.declared.form.StrictForm.{StrictForm}
use Rattle.typed_tree.specs.SharedTypes.{Shared, sem_of}
use Rattle.expr_needs.specs.declared.kind.Kind.TheVariants as kind
use Rattle.check_words.specs.Actions.{NilOrErrors, makes_message, message_to}
use Rattle.check_words.specs.State.{State, UnitAtWork}
use Rattle.check_words.specs.Words.{OfKind}
use Rattle.check_words.proofs.Coming.{next}
use Rattle.check_words.proofs.Flowing.{unit-now}
use Rattle.check_work.specs.Parts.{Gathered}
use Rattle.check_work.proofs.Making.{strict-made}
use Rattle.needs_of_actions.specs.Failing.{IsMessageType, IsRefusedFor, failing, if_so, makes_message_of}
use Rattle.needs_of_actions.proofs.PeersNamed.{result-known, result-refused, site-now}

module _ (count : ℕ) (form : StrictForm) (at : Place) (s : State) where
  pub message-made : (fails : Option ℕ) (t : Shared) (es : List TypedExpr) → Gathered form count t at s.found es → IsMessageType s.atoms s.site fails t
      → Comes (makes_message_of count form fails at) s (Ok tt) (record s { found = es; ways = None })
  message-made None t es g is = strict-made form count t at s es g (OfKind kind.Nothing) is
  message-made (Some w) t es g (u, known, is) = next _ _ _ _ _ u s (result-known s w u known) (strict-made form count t at s es g (NilOrErrors (sem_of u)) is)

  pub message-refused : (fails : Option ℕ) (stop : Stop Fault) → IsRefusedFor s.site fails stop → Comes (makes_message_of count form fails at) s (Err stop) s
  message-refused None Memory h = ran_out _ s s
  message-refused None (OwnFault f) h = absurd h
  message-refused (Some w) Memory h = ran_out _ s s
  message-refused (Some w) (OwnFault f) h = stops _ _ s s (OwnFault f) (result-refused s w f h)

  module _ (r : Result (Unit {0}) (Stop Fault)) (new : State) where
    message-by : (fails : Bool) (w : ℕ) → Comes (makes_message_of count form (if_so fails w) at) s r new → Comes (makes_message fails count form w at) s r new
    message-by true w h = h
    message-by false w h = h

    pub message-to : (by : ℕ → ℕ → List SeenEvent → Bool) (kept : List UnitAtWork) (u : UnitAtWork) → s.units ≡ kept ++ u ∷ [] → (p : Option ℕ)
        → Comes (makes_message_of count form (failing by u.worker s.site.events p) at) s r new → Comes (message_to by count form p at) s r new
    message-to by kept u is None h = h
    message-to by kept u is (Some w) h =
        next _ _ _ _ _ s.site s (site-now s) (next _ _ _ _ _ u s (unit-now s kept u is) (message-by (by u.worker w s.site.events) w h))
