-- Values of anonymous functions that begin, as answers of calls, and that what stands still stands.
use Rattle.std.proofs.Common.{◌≡◌, ◌++◌, ◌∙◌, ℕ, suc, Bool, false, List, [], ◌∷◌, length, map, All, Option, Some, Ok, ap, refl, subst, sym}
use Rattle.std.specs.List.{AllZip}
use Rattle.bal_tree.specs.declared.name.Word.{Word}
use Rattle.checks.specs.Checks.{Comes}
use Rattle.flow_narrowing.specs.declared.flow.Flow.{Flow}
use Rattle.flow_narrowing.specs.declared.flow.Variable.{Variable}
use Rattle.flow_narrowing.specs.Flows.{IfShared, VariableBelow}
use Rattle.type_model.specs.Defined.{TyBelow}
use Rattle.typed_tree.specs.declared.unit.Captured.{Captured}
use Rattle.typed_tree.specs.SharedTypes.{Shared}
use Rattle.check_words.specs.Calls.{Capture, begins_value, captures, in_function, with_captured}
use Rattle.check_words.specs.Sharing.{SameFlow, SameShared, SameUnit, SameVariable}
use Rattle.check_words.specs.Stands.{SharedBelow, Stands, UnitBelow}
use Rattle.check_words.specs.State.{IsLast, State, UnitAtWork}
use Rattle.check_words.proofs.Coming.{given, next}
use Rattle.check_words.proofs.Entering.{unit-stands}
use Rattle.check_words.proofs.Flowing.{unit-now, unit-set}
use Rattle.check_words.proofs.LastOnes.{kept-is}
use Rattle.check_words.proofs.Standing.{front-have, last-has, shared-below, stands-units, unit-replaced}
use Rattle.check_work.specs.declared.work.Unit.{Unit as UnitHeld}
use Rattle.check_work.specs.Views.{unit_of}
use Rattle.check_work.proofs.Noting.{mapped-last}
use Rattle.needs_of_units.specs.Captures.{inner_from, inner_variable, with_captures}
use Rattle.needs_of_units.proofs.Capturing.{captures-below, same-unit-below, with-captures-below}

-- the variables of the captured ones, said both ways
inner-is : (slot : ℕ) (cs : List Capture) → inner_from false slot cs ≡ in_function slot cs
inner-is slot [] = refl
inner-is slot (c ∷ cs) = ap (λ vs. inner_variable false slot c ∷ vs) (inner-is (suc slot) cs)

-- a unit in which nothing was captured, with these and what it gives
pub value-unit : (cs : List Capture) (t gives : Shared) (u m : UnitAtWork) → SameUnit (with_captures false cs (record u { captured = [] })) m → SameShared t gives
    → SameUnit (with_captured cs t u) (record m { result = gives })
value-unit cs t gives u m h same =
    record {
      number = h.number;
      worker = h.worker;
      slots = h.slots;
      params = h.params;
      rest = h.rest;
      rest_member = h.rest_member;
      result = same;
      arrow = h.arrow;
      future = h.future;
      captured = h.captured;
      flow =
          record {
            variables = subst (λ (vs : List Variable). AllZip SameVariable (u.flow.variables ++ vs) m.flow.variables) (inner-is (length u.slots) cs) h.flow.variables;
            reached = h.flow.reached;
          };
    }

-- the same where what was captured was found in a list of its own
pub value-filled : (vs us : List Variable) (uses : List Word) (found every : List Capture) (none : List Captured) (t gives : Shared) (u m : UnitAtWork) → us ≡ vs → found ≡ captures us uses → every ≡ found
    → none ≡ [] → SameUnit (with_captures false every (record u { captured = none })) m → SameShared t gives → SameUnit (with_captured (captures vs uses) t u) (record m { result = gives })
value-filled vs us uses found every none t gives u m are is all empty h same =
    value-unit (captures vs uses) t gives u m
    (subst (λ (xs : List Captured). SameUnit (with_captures false (captures vs uses) (record u { captured = xs })) m) empty
    (subst (λ (ws : List Variable). SameUnit (with_captures false (captures ws uses) (record u { captured = none })) m) are
    (subst (λ (cs : List Capture). SameUnit (with_captures false cs (record u { captured = none })) m) (all ∙ is) h))) same

captured-below : (n : ℕ) (cs : List Capture) (t : Shared) (u : UnitAtWork) → All (λ c. VariableBelow n c.0) cs → SharedBelow n t → UnitBelow n u → UnitBelow n (with_captured cs t u)
captured-below n cs t u h below k = let w = with-captures-below n false cs u h k in
    record {
      slots = w.slots;
      rest = k.rest;
      rest_member = k.rest_member;
      result = below;
      flow = subst (λ (vs : List Variable). All (VariableBelow n) (u.flow.variables ++ vs)) (inner-is (length u.slots) cs) w.flow;
    }

pub last-mapped : (around : List UnitHeld) (u : UnitHeld) → IsLast around u → IsLast (map unit_of around) (unit_of u)
last-mapped around u l = record { kept = map unit_of l.kept; is = mapped-last unit_of around l.kept u l.is }

module _ (s : State) (kept : List UnitAtWork) (u a : UnitAtWork) (is : s.units ≡ kept ++ u ∷ []) (around : IsLast kept a) (t : Shared) (last : IsLast s.wants (Some t))
    (uses : List Word) (v : UnitAtWork) (same : SameUnit (with_captured (captures a.flow.variables uses) t u) v) where
  pub value-begins : Comes (begins_value uses) s (Ok tt) (record s { units = kept ++ v ∷ [] })
  value-begins =
      next _ _ _ _ _ t s (given _ s t last)
      (next _ _ _ _ _ a s (given _ s a (subst (λ (us : List UnitAtWork). IsLast us a) (sym (kept-is 1 s.units kept (u ∷ []) is refl)) around))
      (next _ _ _ _ _ u s (unit-now s kept u is) (unit-set s kept u is (with_captured (captures a.flow.variables uses) t u) v same _ refl)))

  pub value-stands : Stands s → Stands (record s { units = kept ++ v ∷ [] })
  value-stands h =
      let n : ℕ = length s.atoms in
      let there = last-has (UnitBelow n) kept a around (front-have (UnitBelow n) kept (u ∷ []) (subst (All (UnitBelow n)) is h.units)) in
      stands-units s h (kept ++ v ∷ [])
      (unit-replaced n s.units kept u v is h.units
      (same-unit-below n (with_captured (captures a.flow.variables uses) t u) v same
      (captured-below n (captures a.flow.variables uses) t u (captures-below n a.flow.variables uses there.flow) (last-has (IfShared (TyBelow n)) s.wants (Some t) last h.wants)
      (unit-stands s h kept u is))))
