-- What holds behind a call that asked, and what was made behind a question.
use Rattle.std.proofs.Common.{◌≡◌, ◌++◌, List, [], ◌∷◌, All, Option, Some, Result, Ok, Err, OnOk, length, refl, sym, subst, ap}
use Rattle.bal_base.specs.declared.fault.Fault.{Fault}
use Rattle.bal_base.specs.declared.stop.Memory.{Memory as NoMemory}
use Rattle.bal_base.specs.declared.stop.Stop.{Stop}
use Rattle.checks.specs.Checks.{Check, Comes}
use Rattle.checks.proofs.Steps.{ran_out}
use Rattle.descriptors.specs.declared.names.Names.{Names}
use Rattle.descriptors.specs.Steps.{AreNames, lifted}
use Rattle.descriptors.proofs.Yielding.{names-kept}
use Rattle.flow_narrowing.specs.Flows.{IfShared}
use Rattle.type_model.specs.declared.atoms.AtomDef.{AtomDef}
use Rattle.type_model.specs.Calls.{KeepsTypes}
use Rattle.type_model.specs.Defined.{TyBelow}
use Rattle.typed_tree.specs.SharedTypes.{Shared}
use Rattle.check_words.specs.declared.access.Access.{Access}
use Rattle.check_words.specs.Members.{accesses, takes_access}
use Rattle.check_words.specs.Stands.{SharedBelow, Stands}
use Rattle.check_words.specs.State.{State}
use Rattle.check_words.specs.Words.{wants, wants_some}
use Rattle.check_work.specs.declared.work.Work.{Work}
use Rattle.check_work.specs.Views.{state_of}
use Rattle.check_words.proofs.Coming.{became-this, given, next}
use Rattle.check_words.proofs.Flowing.{want-put}
use Rattle.check_words.proofs.LastOnes.{kept-is}
use Rattle.check_words.proofs.Standing.{also-has, stands-wants}

pub both-on : {E : Type 0} (P Q : Type 0) (r : Result (Unit {0}) E) → P → OnOk r Q → OnOk r (P × Q)
both-on P Q (Ok a) p q = (p, q)
both-on P Q (Err e) p q = tt

-- what was made, as the answer of a check
module _ (made : Result (Unit {0}) NoMemory) (r : Result (Unit {0}) (Stop Fault)) (is : r ≡ lifted made) where
  pub lifted-on : (P : Type 0) → OnOk made P → OnOk r P
  lifted-on P h = subst (λ a. OnOk a P) (sym is) (by made h)
    where
      by : (m : Result (Unit {0}) NoMemory) → OnOk m P → OnOk (lifted m) P
      by (Ok a) k = k
      by (Err e) k = tt

  pub lifted-comes : (m : Check State (Unit {0})) (s new : State) → OnOk made (Comes m s (Ok tt) new) → Comes m s r new
  lifted-comes m s new h = subst (λ a. Comes m s a new) (sym is) (by made h)
    where
      by : (a : Result (Unit {0}) NoMemory) → OnOk a (Comes m s (Ok tt) new) → Comes m s (lifted a) new
      by (Ok u) k = k
      by (Err e) k = ran_out m s new

-- names stand over more atoms too
pub over-more : (names : Names) (old new : List AtomDef) (P : Type 0) (r : Result (Unit {0}) (Stop Fault)) → KeepsTypes old new → AreNames old names → OnOk r P
    → OnOk r (AreNames new names × P)
over-more names old new P r kept h p = both-on (AreNames new names) P r (names-kept old new names kept h) p

-- ---- lists whose last member counts

pub on-made : {E : Type 0} (P Q : Type 0) (made : Result (Unit {0}) E) → (P → Q) → OnOk made P → OnOk made Q
on-made P Q (Ok a) f h = f h
on-made P Q (Err e) f h = tt

pub accessed : (s : State) (a : Access) (accs : List Access) → accs ≡ s.accesses ++ a ∷ [] → Comes (accesses a) s (Ok tt) (record s { accesses = accs })
accessed s a accs e = became-this _ s (record s { accesses = accs }) (ap (λ xs. record s { accesses = xs }) e)

pub access-taken : (s : State) (accs : List Access) (a : Access) → s.accesses ≡ accs ++ a ∷ [] → Comes takes_access s (Ok a) (record s { accesses = accs })
access-taken s accs a is = let new : State = record s { accesses = accs } in
    next _ _ _ _ _ a s (given _ s a (record { kept = accs; is = is }))
    (next _ _ _ _ _ tt new (became-this _ s new (ap (λ xs. record s { accesses = xs }) (sym (kept-is 1 s.accesses accs (a ∷ []) is refl)))) (given _ new a refl))

pub want-made : (s : State) (t : Shared) (ws : List (Option Shared)) → ws ≡ s.wants ++ Some t ∷ [] → Comes (wants (Some t)) s (Ok tt) (record s { wants = ws })
want-made s t ws e = want-put s (Some t) (Some t) ws refl e

-- by another handle
pub wanted-of : (s : State) (t : Shared) (ws : List (Option Shared)) → ws ≡ s.wants ++ Some t ∷ []
    → Comes (wants_some (λ env u. u ≡ t.value)) s (Ok tt) (record s { wants = ws })
wanted-of s t ws e = next _ _ _ _ _ t s (given _ s t refl) (want-made s t ws e)

pub want-stands : (s : State) → Stands s → (t : Shared) (ws : List (Option Shared)) → SharedBelow (length s.atoms) t → ws ≡ s.wants ++ Some t ∷ []
    → Stands (record s { wants = ws })
want-stands s h t ws below e =
    stands-wants s h ws (subst (All (IfShared (TyBelow (length s.atoms)))) (sym e) (also-has (IfShared (TyBelow (length s.atoms))) s.wants (Some t) h.wants below))

-- what holds whatever was answered
pub on-any : {E : Type 0} (P : Type 0) (r : Result (Unit {0}) E) → P → OnOk r P
on-any P (Ok a) h = h
on-any P (Err e) h = tt

-- over the same atoms, under another name
pub stands-at : (w : Work) (old new : List AtomDef) → new ≡ old → Stands (state_of old w) → Stands (state_of new w)
stands-at w old new e h = subst (λ env. Stands (state_of env w)) (sym e) h

pub on-stands-at : {E : Type 0} (w : Work) (old new : List AtomDef) (r : Result (Unit {0}) E) → new ≡ old → OnOk r (Stands (state_of new w)) → OnOk r (Stands (state_of old w))
on-stands-at w old new r e h = subst (λ env. OnOk r (Stands (state_of env w))) e h
