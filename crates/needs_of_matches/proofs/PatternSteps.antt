-- Names in patterns, as answers of calls.
use Rattle.std.proofs.Common.{◌≡◌, ◌++◌, List, [], ◌∷◌, Some, Result, Ok, Err, inl, inr, refl, subst, sym}
use Rattle.bal_base.specs.declared.fault.Fault.{Fault}
use Rattle.bal_base.specs.declared.fault.FaultCode.{FaultCode}
use Rattle.bal_base.specs.declared.fault.Kept.TheVariants.{Nothing as ShowsNothing}
use Rattle.bal_base.specs.declared.place.Place.{Place}
use Rattle.bal_base.specs.declared.stop.Stop.{Stop}
use Rattle.bal_base.specs.declared.stop.Stop.TheVariants.{Memory, Fault as OwnFault}
use Rattle.bal_tree.specs.declared.name.QualifiedName.{QualifiedName}
use Rattle.checks.specs.Checks.{Comes, gives_some, refuses, ◌▷◌}
use Rattle.descriptors.specs.declared.names.Meaning.{Meaning}
use Rattle.descriptors.specs.declared.names.Meaning.TheVariants as meaning
use Rattle.descriptors.specs.declared.names.Names.{Names}
use Rattle.operations.specs.declared.operation.Constant.{Constant}
use Rattle.check_words.specs.Branches.{adds_pattern, meaning_pattern, seen_pattern}
use Rattle.check_words.specs.Seen.{Seen, SeenVariable, SeenWorker, SeenConstant, SeenLibrary, SeenMeaning, SeenNothing, looks_up, seen_as}
use Rattle.check_words.specs.State.{State, UnitAtWork}
use Rattle.check_words.specs.Values.{constant_in}
use Rattle.check_words.specs.Words.{fails}
use Rattle.check_words.proofs.Coming.{failed, given, next}
use Rattle.check_words.proofs.Flowing.{unit-now}
use Rattle.needs_of_matches.specs.Patterns.{meaning_constant, named_constant, named_pattern, seen_constant}

-- what is refused
pub refused-comes : (code : FaultCode) (at : Place) (stop : Stop Fault) → stop ≡ OwnFault (record { code = code; at = Some at; kept = ShowsNothing }) → (s : State)
    → Comes (fails {A = Constant} code at) s (Err stop) s
refused-comes code at stop e s =
    subst (λ x. Comes (fails {A = Constant} code at) s (Err x) s) (sym e)
    (failed Constant code at s (record { code = code; at = Some at; kept = ShowsNothing }) (record { has_code = refl; stands = refl; shows = refl }))

module _ (at : Place) (s mid new : State) (c : Constant) (r : Result (Unit {0}) (Stop Fault)) where
  meaning-then : (m : Meaning) → Comes (meaning_constant m at) s (Ok c) mid → Comes (adds_pattern (Some c) at) mid r new → Comes (meaning_pattern m at) s r new
  unfolding Comes refuses
  meaning-then (meaning.Constant t) h k = next (constant_in t) _ s new r c mid h k
  meaning-then (meaning.TypeName t) h k = absurd h
  meaning-then (meaning.Variable number final t) h k = absurd h
  meaning-then (meaning.Function f) h k = absurd h

  seen-then : (seen : Seen) → Comes (seen_constant seen at) s (Ok c) mid → Comes (adds_pattern (Some c) at) mid r new → Comes (seen_pattern seen at) s r new
  unfolding Comes gives_some refuses
  seen-then (SeenVariable v) h k = absurd h
  seen-then (SeenWorker w) h k = absurd h
  seen-then (SeenConstant d) h k =
      subst (λ x. Comes (adds_pattern (Some x) at) s r new) h.0 (subst (λ m. Comes (adds_pattern (Some c) at) m r new) h.1 k)
  seen-then (SeenLibrary row) h k = absurd h
  seen-then (SeenMeaning m) h k = meaning-then m h k
  seen-then (SeenNothing code) h k = absurd h

module _ (at : Place) (s new : State) (f : Fault) where
  meaning-refused : (m : Meaning) → Comes (meaning_constant m at) s (Err (OwnFault f)) new → Comes (meaning_pattern m at) s (Err (OwnFault f)) new
  unfolding Comes gives_some refuses ◌▷◌
  meaning-refused (meaning.Constant t) h = absurd h
  meaning-refused (meaning.TypeName t) h = h
  meaning-refused (meaning.Variable number final t) h = h
  meaning-refused (meaning.Function g) h = h

  seen-refused : (seen : Seen) → Comes (seen_constant seen at) s (Err (OwnFault f)) new → Comes (seen_pattern seen at) s (Err (OwnFault f)) new
  unfolding Comes gives_some refuses
  seen-refused (SeenVariable v) h = h
  seen-refused (SeenWorker w) h = h
  seen-refused (SeenConstant d) h = absurd h
  seen-refused (SeenLibrary row) h = h
  seen-refused (SeenMeaning m) h = meaning-refused m h
  seen-refused (SeenNothing code) h = h

module _ (names : Names) (q : QualifiedName) (s : State) where
  looked-up : (mid new : State) (seen : Seen) (r : Result (Unit {0}) (Stop Fault)) → Comes (looks_up names q) s (Ok seen) mid → Comes (seen_pattern seen q.at) mid r new
      → Comes (named_pattern names q) s r new
  looked-up mid new seen r h k = next _ _ _ _ _ seen mid h k

  pub named-then : (mid new : State) (c : Constant) (r : Result (Unit {0}) (Stop Fault)) → Comes (named_constant names q) s (Ok c) mid
      → Comes (adds_pattern (Some c) q.at) mid r new → Comes (named_pattern names q) s r new
  unfolding ◌▷◌ Comes
  named-then mid new c r h k = looked-up h.1 new h.0 r h.2 (seen-then q.at h.1 mid new c r h.0 h.3 k)

  pub named-stops : (new : State) (stop : Stop Fault) → Comes (named_constant names q) s (Err stop) new → Comes (named_pattern names q) s (Err stop) new
  unfolding ◌▷◌ Comes
  named-stops new (OwnFault f) (inl h) = inl h
  named-stops new (OwnFault f) (inr h) = inr (h.0, h.1, h.2, seen-refused q.at h.1 new f h.0 h.3)
  named-stops new Memory h = tt

  -- what the name stands for is looked up among what is seen in the unit at hand
  pub named-at : (kept : List UnitAtWork) (u : UnitAtWork) → s.units ≡ kept ++ u ∷ [] → (seen : Seen) (r : Result Constant (Stop Fault)) → seen ≡ seen_as names s.site u.flow.variables q
      → Comes (seen_constant seen q.at) s r s → Comes (named_constant names q) s r s
  named-at kept u is seen r e h =
      next _ _ s s r seen s (next _ _ s s (Ok seen) u s (unit-now s kept u is) (given _ s seen e)) h
