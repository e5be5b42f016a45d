-- Anonymous functions as they begin, as answers of calls, and that what stands still stands.
use Rattle.std.proofs.Common.{◌≡◌, ◌++◌, ◌∙◌, ℕ, suc, Bool, false, List, [], ◌∷◌, length, All, Option, Some, None, Result, Ok, ap, refl, subst, sym}
use Rattle.std.proofs.lemmas.List.Elements.{All-nil, AllZip-push}
use Rattle.bal_base.specs.declared.text.Name.{Name}
use Rattle.checks.specs.Checks.{Comes}
use Rattle.flow_narrowing.specs.declared.flow.Flow.{Flow}
use Rattle.flow_narrowing.specs.declared.flow.Variable.{Variable}
use Rattle.flow_narrowing.specs.Flows.{IfShared, VariableBelow}
use Rattle.type_model.specs.Defined.{TyBelow}
use Rattle.typed_tree.specs.SharedTypes.{Shared}
use Rattle.check_words.specs.Calls.{begins_anonymous, new_number, opens_unit, parameter, unit_within, with_parameter}
use Rattle.check_words.specs.Sharing.{SameFlow, SameShared, SameUnit, SameVariable}
use Rattle.check_words.specs.Stands.{SharedBelow, Stands, UnitBelow}
use Rattle.check_words.specs.State.{State, UnitAtWork, with_variable}
use Rattle.check_words.proofs.Coming.{became-this, given, next}
use Rattle.check_words.proofs.Entering.{unit-stands}
use Rattle.check_words.proofs.Flowing.{unit-now, unit-set}
use Rattle.check_words.proofs.LastOnes.{kept-is}
use Rattle.check_words.proofs.Same.{same-unit}
use Rattle.check_words.proofs.Standing.{also-has, front-have, last-has, stands-units, stands-wants, unit-replaced}
use Rattle.needs_of_units.specs.Parts.{adds_parameter}
use Rattle.needs_of_units.specs.Units.{bare_unit}
use Rattle.needs_of_units.proofs.Capturing.{same-unit-below}
use Rattle.needs_of_units.proofs.Naming.{parameter-below, with-same}

-- ---- the unit

pub within-is : (u : UnitAtWork) (n : ℕ) (t : Shared) (v : UnitAtWork) → SameShared u.result t → v ≡ bare_unit n u.worker t u.flow.reached → SameUnit (unit_within u n) v
within-is u n t v same e =
    subst (SameUnit (unit_within u n)) (sym e)
    (record {
      number = refl;
      worker = refl;
      slots = tt;
      params = refl;
      rest = refl;
      rest_member = tt;
      result = same;
      arrow = refl;
      future = refl;
      captured = tt;
      flow = record { variables = tt; reached = refl };
    })

pub bare-below : (k n worker : ℕ) (t : Shared) (reached : Bool) (v : UnitAtWork) → v ≡ bare_unit n worker t reached → SharedBelow k t → UnitBelow k v
bare-below k n worker t reached v e h =
    subst (UnitBelow k) (sym e) (record { slots = All-nil (SharedBelow k); rest = tt; rest_member = tt; result = h; flow = All-nil (VariableBelow k) })

pub anonymous-begins : (s mid new : State) (kept : List UnitAtWork) (u : UnitAtWork) (n : ℕ) → mid.units ≡ s.units → mid.units ≡ kept ++ u ∷ [] → Comes new_number s (Ok n) mid
    → Comes (opens_unit (unit_within u n)) mid (Ok tt) new → Comes begins_anonymous s (Ok tt) new
anonymous-begins s mid new kept u n same is taken opened = next _ _ _ _ _ u s (unit-now s kept u (sym same ∙ is)) (next _ _ _ _ _ n mid taken opened)

-- ---- its parameters

pub parameter-put : (u m : UnitAtWork) (name : Name) (t declared : Shared) (slot p : ℕ) (w : Variable) (g : Flow) → m ≡ record u { slots = u.slots ++ t ∷ [] } → slot ≡ length u.slots
    → SameShared t declared → p ≡ suc m.params → w ≡ parameter name slot declared false → g ≡ with_variable w m.flow → SameUnit (with_parameter name t u) (record m { params = p; flow = g })
parameter-put u m name t declared slot p w g e at same more made added =
    subst
    (λ (x : UnitAtWork). p ≡ suc x.params → g ≡ with_variable (parameter name slot declared false) x.flow → SameUnit (with_parameter name t u) (record x { params = p; flow = g }))
    (sym e) with-slot more (added ∙ ap (λ x. with_variable x m.flow) made)
  where
    variable : SameVariable (parameter name (length u.slots) t false) (parameter name slot declared false)
    variable = record { variable = record { name = refl; slot = at; declared = same; fixed = refl; assigned = refl; captured = refl }; narrowed = tt }

    with-slot : p ≡ suc u.params → g ≡ with_variable (parameter name slot declared false) u.flow
        → SameUnit (with_parameter name t u) (record u { slots = u.slots ++ t ∷ []; params = p; flow = g })
    with-slot k f = let h = same-unit u in
        record {
          number = refl;
          worker = refl;
          slots = AllZip-push SameShared u.slots u.slots t t h.slots refl;
          params = k;
          rest = refl;
          rest_member = h.rest_member;
          result = refl;
          arrow = refl;
          future = refl;
          captured = h.captured;
          flow = subst (SameFlow (with_variable (parameter name (length u.slots) t false) u.flow)) (sym f)
              (with-same u.flow (parameter name (length u.slots) t false) (parameter name slot declared false) variable);
        }

pub with-parameter-below : (n : ℕ) (name : Name) (t : Shared) (u : UnitAtWork) → SharedBelow n t → UnitBelow n u → UnitBelow n (with_parameter name t u)
with-parameter-below n name t u below h =
    record {
      slots = also-has (SharedBelow n) u.slots t h.slots below;
      rest = h.rest;
      rest_member = h.rest_member;
      result = h.result;
      flow = also-has (VariableBelow n) u.flow.variables (parameter name (length u.slots) t false) h.flow (parameter-below n name (length u.slots) t false below);
    }

module _ (s : State) (wkept : List (Option Shared)) (t : Shared) (x : Option Shared) (last : s.wants ≡ wkept ++ x ∷ []) (there : x ≡ Some t) (kept : List UnitAtWork) (u : UnitAtWork) (is : s.units ≡ kept ++ u ∷ [])
    (name : Name) (v : UnitAtWork) (same : SameUnit (with_parameter name t u) v) where
  wanted : s.wants ≡ wkept ++ Some t ∷ []
  wanted = last ∙ ap (λ y. wkept ++ y ∷ []) there

  pub parameter-added : Comes (adds_parameter name) s (Ok tt) (record s { wants = wkept; units = kept ++ v ∷ [] })
  parameter-added = let mid : State = record s { wants = wkept } in
      next _ _ _ _ _ t s (given _ s t (record { kept = wkept; is = wanted }))
      (next _ _ _ _ _ tt mid (became-this _ s mid (ap (λ ws. record s { wants = ws }) (sym (kept-is 1 s.wants wkept (Some t ∷ []) wanted refl))))
      (next _ _ _ _ _ u mid (unit-now mid kept u is) (unit-set mid kept u is (with_parameter name t u) v same _ refl)))

  pub added-stands : Stands s → Stands (record s { wants = wkept; units = kept ++ v ∷ [] })
  added-stands h =
      let n : ℕ = length s.atoms in
      let below = last-has (IfShared (TyBelow n)) s.wants (Some t) (record { kept = wkept; is = wanted }) h.wants in
      stands-units (record s { wants = wkept })
      (stands-wants s h wkept (front-have (IfShared (TyBelow n)) wkept (Some t ∷ []) (subst (All (IfShared (TyBelow n))) wanted h.wants))) (kept ++ v ∷ [])
      (unit-replaced n s.units kept u v is h.units (same-unit-below n (with_parameter name t u) v same (with-parameter-below n name t u below (unit-stands s h kept u is))))
