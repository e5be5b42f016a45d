-- Calls that are opened, and their arguments.
use Rattle.std.proofs.Common.{◌≡◌, ◌++◌, ◌∙◌, ℕ, Bool, List, [], ◌∷◌, length, All, get_or, map, Option, Result, Ok, Err, OnOk, refl, sym, subst, ap}
use Rattle.std.proofs.lemmas.List.{append_cancel_left}
use Rattle.bal_base.specs.declared.fault.Fault.{Fault}
use Rattle.bal_base.specs.declared.fault.FaultCode.{FaultCode}
use Rattle.bal_base.specs.declared.place.Place.{Place}
use Rattle.bal_base.specs.declared.stop.Stop.{Stop}
use Rattle.checks.specs.Checks.{Comes, ◌▷◌}
use Rattle.flow_narrowing.specs.Flows.{IfShared}
use Rattle.type_model.specs.declared.answers.TypeLimit.{TypeLimit}
use Rattle.type_model.specs.declared.atoms.AtomDef.{AtomDef}
use Rattle.type_model.specs.Calls.{Asked}
use Rattle.type_model.specs.Defined.{TyBelow}
use Rattle.typed_tree.specs.declared.expr.TypedExpr.{TypedExpr}
use Rattle.typed_tree.specs.SharedTypes.{Shared}
use Rattle.check_words.specs.Calls.{calls, is_argument, one_more}
use Rattle.check_words.specs.Stands.{CallBelow, CalledBelow, Stands}
use Rattle.check_words.specs.State.{CallAtWork, Called, IsLast, State, all_but}
use Rattle.check_words.specs.Words.{below_if, unless}
use Rattle.check_words.proofs.Coming.{became-this, given, next}
use Rattle.check_words.proofs.LastOnes.{kept-is}
use Rattle.check_words.proofs.Standing.{also-has, front-have, last-has, others-have, stands-calls, stands-wants}
use Rattle.checks.proofs.Steps.{stops}
use Rattle.check_work.proofs.Noting.{mapped-last}
use Rattle.needs_of_calls.specs.Arguments.{counts_argument}
use Rattle.needs_of_calls.specs.Opened.{opened}

-- ---- answers

-- what holds whatever was answered, and what holds where it went well
pub on-all : (P Q : Type 0) (r : Result (Unit {0}) (Stop Fault)) → P → OnOk r Q → OnOk r (P × Q)
on-all P Q (Ok a) p h = (p, h)
on-all P Q (Err e) p h = tt

pub on-any : (P : Type 0) (r : Result (Unit {0}) (Stop Fault)) → P → OnOk r P
on-any P (Ok a) h = h
on-any P (Err e) h = tt

-- ---- calls that are opened

pub call-opened : (s : State) (c : Called) (cs : List CallAtWork) → cs ≡ s.calls ++ opened c ∷ [] → Comes (calls c) s (Ok tt) (record s { calls = cs })
call-opened s c cs more = became-this _ s (record s { calls = cs }) (ap (λ xs. record s { calls = xs }) more)

pub opened-stands : (s : State) → Stands s → (c : Called) (cs : List CallAtWork) → CalledBelow (length s.atoms) c → cs ≡ s.calls ++ opened c ∷ [] → Stands (record s { calls = cs })
opened-stands s h c cs below more = let n : ℕ = length s.atoms in
    stands-calls s h cs (subst (All (CallBelow n)) (sym more) (also-has (CallBelow n) s.calls (opened c) h.calls below))

-- where it may be called with so many arguments
module _ (b : Bool) (code : FaultCode) (at : Place) (c : Called) (s : State) where
  pub opened-if : (cs : List CallAtWork) → Comes (unless b code at) s (Ok tt) s → cs ≡ s.calls ++ opened c ∷ [] → Comes (unless b code at ▷ λ u. calls c) s (Ok tt) (record s { calls = cs })
  opened-if cs h more = next _ _ _ _ _ tt s h (call-opened s c cs more)

  pub refused-if : (stop : Stop Fault) → Comes (unless b code at) s (Err stop) s → Comes (unless b code at ▷ λ u. calls c) s (Err stop) s
  refused-if stop h = stops (unless b code at) _ s s stop h

-- ---- the last one

module _ {A : Type 0} where
  pub last-one : (xs kept : List A) (c x : A) → IsLast xs c → xs ≡ kept ++ x ∷ [] → c ≡ x
  last-one xs kept c x l is =
      let same : l.kept ≡ kept = sym (kept-is 1 xs l.kept (c ∷ []) l.is refl) ∙ kept-is 1 xs kept (x ∷ []) is refl in
      let one : c ∷ [] ≡ x ∷ [] = append_cancel_left l.kept (c ∷ []) (x ∷ []) (sym l.is ∙ is ∙ ap (λ k. k ++ x ∷ []) (sym same)) in
      ap (λ ys. get_or ys 0 c) one

pub mapped-is-last : {A B : Type 0} (f : A → B) (xs : List A) (x : A) → IsLast xs x → IsLast (map f xs) (f x)
mapped-is-last f xs x l = record { kept = map f l.kept; is = mapped-last f xs l.kept x l.is }

-- ---- arguments

pub argument-counted : (s : State) (kept cs : List CallAtWork) (c : CallAtWork) (ws : List (Option Shared)) → s.calls ≡ kept ++ c ∷ [] → cs ≡ kept ++ one_more c ∷ []
    → ws ≡ all_but 1 s.wants → Comes (counts_argument c) s (Ok tt) (record s { calls = cs; wants = ws })
argument-counted s kept cs c ws is more fewer = let mid : State = record s { wants = ws } in
    next _ _ _ _ _ tt mid (became-this _ s mid (ap (λ xs. record s { wants = xs }) fewer))
    (became-this _ mid (record mid { calls = cs })
    (ap (λ xs. record mid { calls = xs }) (more ∙ ap (λ xs. xs ++ one_more c ∷ []) (sym (kept-is 1 s.calls kept (c ∷ []) is refl)))))

pub counted-stands : (s : State) → Stands s → (kept cs : List CallAtWork) (c : CallAtWork) (ws : List (Option Shared)) → s.calls ≡ kept ++ c ∷ []
    → cs ≡ kept ++ one_more c ∷ [] → ws ≡ all_but 1 s.wants → Stands (record s { calls = cs; wants = ws })
counted-stands s h kept cs c ws is more fewer =
    let n : ℕ = length s.atoms in
    let all : All (CallBelow n) (kept ++ c ∷ []) = subst (All (CallBelow n)) is h.calls in
    stands-wants (record s { calls = cs })
    (stands-calls s h cs
    (subst (All (CallBelow n)) (sym more)
    (also-has (CallBelow n) kept (one_more c) (front-have (CallBelow n) kept (c ∷ []) all) (last-has (CallBelow n) s.calls c (record { kept = kept; is = is }) h.calls))))
    ws (subst (All (IfShared (TyBelow n))) (sym fewer) (others-have (IfShared (TyBelow n)) 1 s.wants h.wants))

module _ (passes : List AtomDef → Asked → TypeLimit → Type 0) (at : Place) (s : State) (c : CallAtWork) (w : Option Shared) (e : TypedExpr) (call : IsLast s.calls c)
    (want : IsLast s.wants w) (part : IsLast s.found e) where
  argument-comes : (r : Result (Unit {0}) (Stop Fault)) (new : State) → Comes (below_if passes w e at ▷ λ u. counts_argument c) s r new → Comes (is_argument passes at) s r new
  argument-comes r new h =
      next _ _ _ _ _ c s (given _ s c call) (next _ _ _ _ _ w s (given _ s w want) (next _ _ _ _ _ e s (given _ s e part) h))

  pub argument-stops : (stop : Stop Fault) (new : State) → Comes (below_if passes w e at) s (Err stop) new → Comes (is_argument passes at) s (Err stop) new
  argument-stops stop new h = argument-comes (Err stop) new (stops _ _ s new stop h)

  pub argument-taken : (mid new : State) → Comes (below_if passes w e at) s (Ok tt) mid → Comes (counts_argument c) mid (Ok tt) new → Comes (is_argument passes at) s (Ok tt) new
  argument-taken mid new h k = argument-comes (Ok tt) new (next _ _ _ _ _ tt mid h k)
