-- Small steps of a state, as answers of calls, and that what stands still stands behind them.
use Rattle.std.proofs.Common.{◌≡◌, ◌++◌, ℕ, List, [], ◌∷◌, length, All, Option, None, Some, Ok, refl, sym, subst, ap}
use Rattle.checks.specs.Checks.{Comes}
use Rattle.flow_narrowing.specs.declared.flow.Flow.{Flow}
use Rattle.flow_narrowing.specs.declared.flow.Variable.{Variable}
use Rattle.flow_narrowing.specs.Flows.{IfShared, VariableBelow}
use Rattle.type_model.specs.Defined.{TyBelow}
use Rattle.typed_tree.specs.declared.expr.TypedExpr.{TypedExpr}
use Rattle.typed_tree.specs.SharedTypes.{Shared}
use Rattle.check_words.specs.Sharing.{SameFlow, SameShared}
use Rattle.check_words.specs.Stands.{PartBelow, SharedBelow, Stands}
use Rattle.check_words.specs.State.{AreLast, State, UnitAtWork, all_but, with_variable}
use Rattle.check_words.specs.Statements.{takes_part, takes_want}
use Rattle.check_words.specs.Words.{changes_flow}
use Rattle.check_words.proofs.Coming.{became-this, given, next}
use Rattle.check_words.proofs.Entering.{known-stands, unit-stands}
use Rattle.check_words.proofs.Flowing.{flow-changed}
use Rattle.check_words.proofs.LastOnes.{kept-is}
use Rattle.check_words.proofs.Same.{same-flow}
use Rattle.check_words.proofs.Standing.{also-has, front-have, last-has, others-have, stands-found, stands-units, stands-wants, unit-replaced, unit-with-slot}

-- ---- the last part

module _ (s : State) (part : TypedExpr) (es : List TypedExpr) (last : AreLast s.found 1 (part ∷ [])) (are : es ≡ all_but 1 s.found) where
  pub part-taken : Comes takes_part s (Ok part) (record s { found = es; ways = None })
  part-taken = let new : State = record s { found = es; ways = None } in
      next _ _ _ _ _ part s (given _ s part (record { kept = last.kept; is = last.is }))
      (next _ _ _ _ _ (part ∷ []) new
      (next _ _ _ _ _ (part ∷ []) s (given _ s (part ∷ []) last)
      (next _ _ _ _ _ tt new (became-this _ s new (ap (λ xs. record s { found = xs; ways = None }) are)) (given _ new (part ∷ []) refl)))
      (given _ new part refl))

  pub rest-stands : Stands s → Stands (record s { found = es; ways = None })
  rest-stands h = stands-found s h es (subst (All (PartBelow (length s.atoms))) (sym are) (others-have (PartBelow (length s.atoms)) 1 s.found h.found))

  pub taken-below : Stands s → PartBelow (length s.atoms) part
  taken-below h = last-has (PartBelow (length s.atoms)) s.found part (record { kept = last.kept; is = last.is }) h.found

-- ---- the type that is wanted last

-- the last one, where it is told what it is
pub told-last : {A : Type 0} (xs kept : List A) (x y : A) → xs ≡ kept ++ x ∷ [] → x ≡ y → xs ≡ kept ++ y ∷ []
told-last xs kept x y e f = subst (λ z. xs ≡ kept ++ z ∷ []) f e

module _ (s : State) (kept : List (Option Shared)) (t : Shared) (is : s.wants ≡ kept ++ Some t ∷ []) where
  pub want-taken : Comes takes_want s (Ok t) (record s { wants = kept })
  want-taken = let new : State = record s { wants = kept } in
      next _ _ _ _ _ t s (given _ s t (record { kept = kept; is = is }))
      (next _ _ _ _ _ tt new (became-this _ s new (ap (λ ws. record s { wants = ws }) (sym (kept-is 1 s.wants kept (Some t ∷ []) is refl)))) (given _ new t refl))

  pub fewer-wants-stand : Stands s → Stands (record s { wants = kept })
  fewer-wants-stand h =
      stands-wants s h kept (front-have (IfShared (TyBelow (length s.atoms))) kept (Some t ∷ []) (subst (All (IfShared (TyBelow (length s.atoms)))) is h.wants))

  pub want-below : Stands s → SharedBelow (length s.atoms) t
  want-below h = last-has (IfShared (TyBelow (length s.atoms))) s.wants (Some t) (record { kept = kept; is = is }) h.wants

-- ---- the unit at hand

module _ (s : State) (kept : List UnitAtWork) (u : UnitAtWork) (is : s.units ≡ kept ++ u ∷ []) where
  pub slot-stands : (x : Shared) (new : State) → new ≡ record s { units = kept ++ record u { slots = u.slots ++ x ∷ [] } ∷ [] } → SharedBelow (length s.atoms) x → Stands s → Stands new
  slot-stands x new e below h =
      subst Stands (sym e)
      (stands-units s h (kept ++ record u { slots = u.slots ++ x ∷ [] } ∷ [])
      (unit-replaced (length s.atoms) s.units kept u (record u { slots = u.slots ++ x ∷ [] }) is h.units
      (unit-with-slot (length s.atoms) u x (unit-stands s h kept u is) below)))

  pub declared-comes : (v : Variable) (g : Flow) → g ≡ with_variable v u.flow → Comes (changes_flow (with_variable v)) s (Ok tt) (record s { units = kept ++ record u { flow = g } ∷ []; ways = None })
  declared-comes v g e =
      flow-changed s kept u is (with_variable v) g (subst (SameFlow (with_variable v u.flow)) (sym e) (same-flow (with_variable v u.flow)))
      (record s { units = kept ++ record u { flow = g } ∷ []; ways = None }) refl

  pub declared-stands : (v : Variable) (g : Flow) → g ≡ with_variable v u.flow → VariableBelow (length s.atoms) v → Stands s → Stands (record s { units = kept ++ record u { flow = g } ∷ []; ways = None })
  declared-stands v g e below h =
      known-stands s h kept u is s.blocks g
      (subst (λ (f : Flow). All (VariableBelow (length s.atoms)) f.variables) (sym e) (also-has (VariableBelow (length s.atoms)) u.flow.variables v (unit-stands s h kept u is).flow below))
