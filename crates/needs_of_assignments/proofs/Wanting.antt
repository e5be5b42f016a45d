-- What is wanted where a name is assigned.
use Rattle.std.proofs.Common.{◌≡◌, ◌&&◌, Bool, true, false, not, Some, Result, Ok, Err, IfOk, refl, sym, subst}
use Rattle.bal_base.specs.declared.fault.Fault.{Fault}
use Rattle.bal_base.specs.declared.fault.FaultCode.{FaultCode}
use Rattle.bal_base.specs.declared.fault.FaultCode.TheVariants.{AssignFinal, Captured}
use Rattle.bal_base.specs.declared.fault.Kept.TheVariants.{Nothing as ShowsNothing}
use Rattle.bal_base.specs.declared.place.Place.{Place}
use Rattle.bal_base.specs.declared.stop.Memory.{Memory as NoMemory}
use Rattle.bal_base.specs.declared.stop.Stop.{Stop}
use Rattle.bal_base.specs.declared.stop.Stop.TheVariants.{Memory, Fault as OwnFault}
use Rattle.checks.specs.Checks.{Comes, either, refuses, ◌▷◌}
use Rattle.checks.specs.Questions.{IsFault}
use Rattle.checks.proofs.Steps.{ran_out, stops}
use Rattle.descriptors.specs.Described.{IsCopy}
use Rattle.descriptors.specs.Steps.{lifted}
use Rattle.flow_narrowing.specs.declared.flow.Variable.{Variable}
use Rattle.type_model.specs.declared.basic.Ty.{Ty}
use Rattle.typed_tree.specs.SharedTypes.{Shared}
use Rattle.check_words.specs.Sharing.{SameShared}
use Rattle.check_words.specs.State.{State}
use Rattle.check_words.specs.Statements.{variable_assignable}
use Rattle.check_words.specs.Values.{uses}
use Rattle.check_words.specs.Words.{Step, fails, unless, wants, wants_some}
use Rattle.check_words.proofs.Coming.{failed, given, next}
use Rattle.check_words.proofs.Flowing.{want-put}
use Rattle.needs_of_assignments.specs.Assigning.{Wants, with_want}

pub refused-wants : (code : FaultCode) (at : Place) (f : Fault) → IsFault code (Some at) ShowsNothing f → Wants (fails code at) (Err (OwnFault f))
unfolding Wants
refused-wants code at f h s = failed (Unit {0}) code at s f h

pub out-wants : (check : Step) → Wants check (Err Memory)
unfolding Wants
out-wants check s = ran_out check s s

-- one of two, by a test
pub first-wants : (b : Bool) (m n : Step) (r : Result Shared (Stop Fault)) → b ≡ true → Wants m r → Wants (either b m n) r
first-wants true m n r e h = h
first-wants false m n r e h = let no : ⊥ = cc in absurd no

pub second-wants : (b : Bool) (m n : Step) (r : Result Shared (Stop Fault)) → b ≡ false → Wants n r → Wants (either b m n) r
second-wants false m n r e h = h
second-wants true m n r e h = let no : ⊥ = cc in absurd no

-- what refuses, and what follows
pub refused-first : (m n : Step) (code : FaultCode) (at : Place) (r : Result Shared (Stop Fault)) → ((s : State) (stop : Stop Fault) → Comes (fails {A = Unit {0}} code at) s (Err stop) s → Comes m s (Err stop) s)
    → Wants (fails code at) r → Wants (m ▷ λ u. n) r
unfolding Wants Comes refuses
refused-first m n code at (Err stop) same h s = stops m _ s s stop (same s stop (h s))
refused-first m n code at (Ok t) same h s = absurd (h s)

module _ (v : Variable) (at : Place) (r : Result Shared (Stop Fault)) where
  pub fixed-wants : v.fixed ≡ true → Wants (fails AssignFinal at) r → Wants (variable_assignable v at) r
  fixed-wants is h =
      refused-first (either v.fixed (fails AssignFinal at) (uses v at)) (wants (Some v.declared)) AssignFinal at r
      (λ s stop k. subst (λ b. Comes (either b (fails AssignFinal at) (uses v at)) s (Err stop) s) (sym is) k) h

  pub free-wants : v.fixed ≡ false → Wants (uses v at ▷ λ u. wants (Some v.declared)) r → Wants (variable_assignable v at) r
  free-wants is h = subst (λ b. Wants (either b (fails AssignFinal at) (uses v at) ▷ λ u. wants (Some v.declared)) r) (sym is) h

  pub lost-wants : (v.captured && v.assigned) ≡ true → Wants (fails Captured at) r → Wants (uses v at ▷ λ u. wants (Some v.declared)) r
  lost-wants is h =
      refused-first (uses v at) (wants (Some v.declared)) Captured at r (λ s stop k. subst (λ b. Comes (unless (not b) Captured at) s (Err stop) s) (sym is) k) h

pub used-wants : (v : Variable) (at : Place) (m : Result Shared NoMemory) → (v.captured && v.assigned) ≡ false → IfOk m (SameShared v.declared)
    → Wants (uses v at ▷ λ u. wants (Some v.declared)) (lifted m)
unfolding Wants
used-wants v at (Ok t) free same s =
    next (uses v at) _ s (with_want s (Ok t)) (Ok tt) tt s (subst (λ b. Comes (unless (not b) Captured at) s (Ok tt) s) (sym free) (given _ s tt refl))
    (want-put s (Some v.declared) (Some t) _ same refl)
used-wants v at (Err e) free same s = ran_out _ s s

pub copy-wants : (t : Ty) (m : Result Shared NoMemory) → IfOk m (λ u. IsCopy t u.value) → Wants (wants_some (λ env. IsCopy t)) (lifted m)
unfolding Wants
copy-wants t (Ok u) copy s = next _ _ _ _ _ u s (given _ s u copy) (want-put s (Some u) (Some u) _ refl refl)
copy-wants t (Err e) copy s = ran_out _ s s

pub ruleset wanting = (out-wants)
