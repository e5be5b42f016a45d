-- Casts, `trap` and `check`: what is made of the last part is what the needs mean, and what stands still stands.
use Rattle.std.proofs.Common.{◌≡◌, ◌++◌, ◌∙◌, ℕ, Bool, false, List, [], ◌∷◌, length, All, Option, Some, None, Result, Ok, Err, inl, inr, refl, rules, sym, subst, ap}
use Rattle.std.proofs.lemmas.List.{append_cancel_left}
use Rattle.bal_base.specs.declared.fault.Fault.{Fault}
use Rattle.bal_base.specs.declared.place.Place.{Place}
use Rattle.bal_base.specs.declared.stop.Stop.{Stop}
use Rattle.bal_base.specs.declared.stop.Stop.TheVariants.{Memory, Fault as OwnFault}
use Rattle.checks.specs.Checks.{Check, Comes, ◌▷◌}
use Rattle.checks.specs.Questions.{below}
use Rattle.flow_narrowing.specs.Flows.{IfShared}
use Rattle.operations.specs.Kinds.{IsError}
use Rattle.type_model.specs.declared.answers.TypeLimit.{TypeLimit}
use Rattle.type_model.specs.declared.atoms.AtomDef.{AtomDef}
use Rattle.type_model.specs.declared.basic.Ty.{Ty}
use Rattle.type_model.specs.Calls.{Asked}
use Rattle.type_model.specs.Defined.{TyBelow}
use Rattle.typed_tree.specs.declared.expr.TypedExpr.{TypedExpr}
use Rattle.typed_tree.specs.declared.form.StrictForm.TheVariants as form
use Rattle.typed_tree.specs.Exprs.{type_of}
use Rattle.typed_tree.specs.SharedTypes.{Shared, sem_of}
use Rattle.typed_tree.specs.Views.{IsCheck, IsTrap}
use Rattle.typed_tree.proofs.ExprLayers.{expr_layers}
use Rattle.check_words.specs.Sharing.{SameShared}
use Rattle.check_words.specs.Stands.{PartBelow, SharedBelow, Stands, UnitBelow}
use Rattle.check_words.specs.State.{AreLast, IsLast, State, UnitAtWork, all_but}
use Rattle.check_words.specs.Values.{casts, checked, checks, traps}
use Rattle.check_words.specs.Words.{Atoms, EitherOf, PartOf, SharedOf, asking, new_slot, sem, some_over}
use Rattle.check_words.proofs.Coming.{became-this, given, made, next, regroup}
use Rattle.check_words.proofs.Flowing.{slot-made}
use Rattle.check_words.proofs.LastOnes.{kept-is}
use Rattle.check_words.proofs.Standing.{front-have, last-has, shared-below, stands-units, stands-wants, unit-has, unit-replaced, unit-with-slot}
use Rattle.check_kinds.specs.Over.{ComesOver}
use Rattle.check_kinds.proofs.Over.{over-asks, over-at, over-on, over-some}
use Rattle.check_work.specs.Parts.{Gathered}
use Rattle.check_work.proofs.Making.{made-stands, strict-stands}
use Rattle.needs_of_operators.specs.Checked.{Became, errors_fit}

-- so many of the last parts became one
abbrev pub with_found : State → List TypedExpr → State
with_found s es = record s { found = es; ways = None }

check-type : (panics : Bool) (own : ℕ) (a : TypedExpr) (t : Shared) (at : Place) (e : TypedExpr) → IsCheck panics own a t at e → type_of e ≡ t
check-type panics own a t at e (b, is, same) = search (rules, expr_layers)

trap-type : (a : TypedExpr) (t : Shared) (at : Place) (e : TypedExpr) → IsTrap a t at e → type_of e ≡ t
trap-type a t at e (b, is, same) = search (rules, expr_layers)

-- the last one is the last one
pub last-one : {A : Type 0} (xs ys : List A) (a : A) → IsLast xs a → AreLast xs 1 ys → ys ≡ a ∷ []
last-one xs ys a l m =
    let same : m.kept ≡ l.kept = sym (kept-is 1 xs m.kept ys m.is m.many) ∙ kept-is 1 xs l.kept (a ∷ []) l.is refl in
    append_cancel_left l.kept ys (a ∷ []) (ap (λ ks. ks ++ ys) (sym same) ∙ sym m.is ∙ l.is)

same-last : {A : Type 0} (xs : List A) (a b : A) → IsLast xs a → AreLast xs 1 (b ∷ []) → a ≡ b
same-last xs a b l m = let e : b ∷ [] ≡ a ∷ [] = last-one xs (b ∷ []) a l m in cc

-- one comes in the place of the last one
pub put-back : (found mid es : List TypedExpr) (e : TypedExpr) → es ≡ mid ++ e ∷ [] → mid ≡ all_but 1 found → es ≡ all_but 1 found ++ e ∷ []
put-back found mid es e more kept = more ∙ ap (λ xs. xs ++ e ∷ []) kept

-- ---- trap

module _ (s : State) (at : Place) (a : TypedExpr) (t : Shared) (es : List TypedExpr) (last : IsLast s.found a) (b : Became (λ x. IsTrap x t at) s.found es) where
  pub traps-come : EitherOf (sem a) IsError s.atoms t.value → Comes (traps at) s (Ok tt) (with_found s es)
  traps-come of =
      made 1 _ s (with_found s es) (b.part ∷ []) b.e b.last
      (b.part, refl, (t, subst (λ x. EitherOf (sem x) IsError s.atoms t.value) (same-last s.found a b.part last b.last) of, b.is_made)) (ap (with_found s) b.after)

  pub traps-stand : Stands s → SharedBelow (length s.atoms) t → Stands (with_found s es)
  traps-stand h below = made-stands s h 1 b.e t es (trap-type b.part t at b.e b.is_made) below b.after

-- ---- check

module _ (s : State) (kept us : List UnitAtWork) (u v : UnitAtWork) (is : s.units ≡ kept ++ u ∷ []) (are : us ≡ kept ++ v ∷ []) (x : Shared) (slot : v ≡ record u { slots = u.slots ++ x ∷ [] }) where
  -- the units are these now
  abbrev pub with_units : State
  with_units = record s { units = us }

  slot-stands : Stands s → SharedBelow (length s.atoms) x → Stands with_units
  slot-stands h below = let n : ℕ = length s.atoms in
      stands-units s h us
      (subst (All (UnitBelow n)) (sym are)
      (unit-replaced n s.units kept u v is h.units (subst (UnitBelow n) (sym slot) (unit-with-slot n u x (unit-has n s.units kept u is h.units) below))))

  slot-comes : (t : Shared) → SameShared t x → Comes (new_slot t) s (Ok (length u.slots)) with_units
  slot-comes t same =
      slot-made s kept u is t x same with_units (ap (λ ws. record s { units = ws }) are ∙ ap (λ w. record s { units = kept ++ w ∷ [] }) slot)

  module _ (panics : Bool) (own : ℕ) (at : Place) (a : TypedExpr) (t : Shared) (es : List TypedExpr) (last : IsLast s.found a) (same : SameShared (type_of a) x)
      (number : own ≡ length u.slots) (b : Became (λ y. IsCheck panics own y t at) s.found es) where
    pub checked-come : PartOf (sem a) (λ y. ¬ IsError y) s.atoms t.value → Comes (checked panics at) s (Ok tt) (with_found with_units es)
    checked-come of =
        next _ _ _ _ _ a s (given _ s a last)
        (next _ _ _ _ _ (length u.slots) with_units (slot-comes (type_of a) same)
        (made 1 _ with_units (with_found with_units es) (b.part ∷ []) b.e b.last (
          b.part,
          refl,
          (
            t,
            subst (λ y. PartOf (sem y) (λ z. ¬ IsError z) s.atoms t.value) (same-last s.found a b.part last b.last) of,
            subst (λ n. IsCheck panics n b.part t at b.e) number b.is_made,
          ),
        ) (ap (with_found with_units) b.after)))

    pub checked-stand : Stands s → SharedBelow (length s.atoms) t → Stands (with_found with_units es)
    checked-stand h below =
        made-stands with_units (slot-stands h (shared-below (length s.atoms) (type_of a) x same (last-has (PartBelow (length s.atoms)) s.found a last h.found))) 1 b.e t es
        (check-type panics own b.part t at b.e b.is_made) below b.after

module _ (passes : List AtomDef → Asked → TypeLimit → Type 0) (at : Place) (env mid new : Atoms) (e : TypedExpr) (t : Shared) (errors u : Ty) (r : Result (Unit {0}) (Stop Fault)) where
  pub errors-asked : PartOf (sem e) IsError env errors → mid ≡ env → u ≡ t.value → Comes (below passes errors.sem u.sem (Some at)) mid r new → ComesOver (errors_fit passes e t at) env r new
  errors-asked of is same h =
      over-on (some_over (PartOf (sem e) IsError)) (λ x. asking (below passes x.sem (sem_of t) (Some at))) env env new errors r (over-some (PartOf (sem e) IsError) env errors of)
      (over-asks (below passes errors.sem (sem_of t) (Some at)) env new r
      (subst (λ (v : Ty). Comes (below passes errors.sem v.sem (Some at)) env r new) same (subst (λ o. Comes (below passes errors.sem u.sem (Some at)) o r new) is h)))

-- where what comes first stops
stopped-first : {A B C : Type 0} (m : Check State A) (n : A → Check State B) (k : B → Check State C) (old new : State) (stop : Stop Fault) → Comes (m ▷ n) old (Err stop) new
    → Comes (m ▷ λ a. n a ▷ k) old (Err stop) new
unfolding Comes ◌▷◌
stopped-first m n k old new (OwnFault f) (inl h) = inl h
stopped-first m n k old new (OwnFault f) (inr (a, mid, h, g)) = inr (a, mid, h, inl g)
stopped-first m n k old new Memory h = tt

module _ (passes : List AtomDef → Asked → TypeLimit → Type 0) (at : Place) (s : State) (a : TypedExpr) (u : UnitAtWork) (last : IsLast s.found a) (unit : IsLast s.units u) where
  pub errors-refused : (env : Atoms) (stop : Stop Fault) → ComesOver (errors_fit passes a u.result at) s.atoms (Err stop) env → Comes (checks passes at) s (Err stop) (record s { atoms = env })
  errors-refused env stop h = let mid : State = record s { atoms = env } in
      next _ _ _ _ _ a s (given _ s a last)
      (next _ _ _ _ _ u s (given _ s u unit)
      (stopped-first (some_over (PartOf (sem a) IsError)) (λ errors. asking (below passes errors.sem (sem_of u.result) (Some at))) (λ v. checked false at) s mid stop
      (over-at (errors_fit passes a u.result at) s (Err stop) env h)))

  pub errors-fit : (env : Atoms) (r : Result (Unit {0}) (Stop Fault)) (new : State) → ComesOver (errors_fit passes a u.result at) s.atoms (Ok tt) env
      → Comes (checked false at) (record s { atoms = env }) r new → Comes (checks passes at) s r new
  errors-fit env r new h k = let mid : State = record s { atoms = env } in
      next _ _ _ _ _ a s (given _ s a last)
      (next _ _ _ _ _ u s (given _ s u unit)
      (regroup (some_over (PartOf (sem a) IsError)) (λ errors. asking (below passes errors.sem (sem_of u.result) (Some at))) (λ v. checked false at) s mid new tt r
      (over-at (errors_fit passes a u.result at) s (Ok tt) env h) k))

-- ---- casts

module _ (s : State) (wants : List (Option Shared)) (at : Place) (a : TypedExpr) (t r : Shared) (es : List TypedExpr) (is : s.wants ≡ wants ++ Some t ∷ [])
    (last : IsLast s.found a) (g : Gathered (form.Cast t) 1 r at s.found es) where
  pub casts-come : SharedOf (sem a) (sem_of t) s.atoms r.value → Comes (casts at) s (Ok tt) (record s { wants = wants; found = es; ways = None })
  casts-come of =
      let mid : State = record s { wants = wants } in
      next _ _ _ _ _ t s (given _ s t (record { kept = wants; is = is }))
      (next _ _ _ _ _ tt mid (became-this _ s mid (ap (λ ws. record s { wants = ws }) (sym (kept-is 1 s.wants wants (Some t ∷ []) is refl))))
      (made 1 _ mid (with_found mid es) g.parts g.e g.last (a, last-one s.found g.parts a last g.last, (r, of, g.strict)) (ap (with_found mid) g.after)))

  pub casts-stand : Stands s → SharedBelow (length s.atoms) r → Stands (record s { wants = wants; found = es; ways = None })
  casts-stand h below =
      let mid : State = record s { wants = wants } in
      let n : ℕ = length s.atoms in
      strict-stands (form.Cast t) 1 r at mid es g
      (stands-wants s h wants (front-have (IfShared (TyBelow n)) wants (Some t ∷ []) (subst (All (IfShared (TyBelow n))) is h.wants))) below
