-- Parameters as they are named, as answers of calls, and that what stands still stands.
use Rattle.std.proofs.Common.{◌≡◌, ◌++◌, ◌∙◌, ℕ, Bool, List, [], ◌∷◌, length, All, Some, None, Ok, refl, subst, sym, slice_get}
use Rattle.std.specs.List.{AllZip}
use Rattle.std.proofs.lemmas.List.Elements.{All-get_or, AllZip-push}
use Rattle.std.proofs.lemmas.Option.{get_or_from_slice_get, slice_get_within}
use Rattle.bal_base.specs.declared.text.Name.{Name}
use Rattle.checks.specs.Checks.{Comes}
use Rattle.flow_narrowing.specs.declared.flow.Flow.{Flow}
use Rattle.flow_narrowing.specs.declared.flow.Variable.{Variable}
use Rattle.flow_narrowing.specs.Flows.{VariableBelow}
use Rattle.typed_tree.specs.SharedTypes.{Shared}
use Rattle.check_words.specs.Calls.{parameter}
use Rattle.check_words.specs.Sharing.{SameFlow, SameShared, SameVariable}
use Rattle.check_words.specs.Stands.{FlowBelow, SharedBelow, Stands}
use Rattle.check_words.specs.State.{State, UnitAtWork, with_variable}
use Rattle.check_words.proofs.Coming.{given, next}
use Rattle.check_words.proofs.Entering.{known-stands, unit-stands}
use Rattle.check_words.proofs.Flowing.{flow-changed, unit-now}
use Rattle.check_words.proofs.Same.{same-flow}
use Rattle.check_words.proofs.Standing.{also-has, flow-below}
use Rattle.needs_of_units.specs.Parts.{IsNextParameter, declares_parameter}

-- a member of a list
pub all-at : {A : Type 0} (P : A → Type 0) (xs : List A) (i : ℕ) (x : A) → slice_get xs i ≡ Some x → All P xs → P x
all-at P xs i x e h = subst P (get_or_from_slice_get xs i x x e) (All-get_or P xs i x (slice_get_within xs i x e) h)

-- one variable more, by its handle
pub with-same : (f : Flow) (v w : Variable) → SameVariable v w → SameFlow (with_variable v f) (with_variable w f)
with-same f v w same =
    record { variables = AllZip-push SameVariable f.variables f.variables v w (same-flow f).variables same; reached = refl }

-- the variable of a parameter has only its declared type
pub parameter-below : (n : ℕ) (name : Name) (slot : ℕ) (t : Shared) (assigned : Bool) → SharedBelow n t → VariableBelow n (parameter name slot t assigned)
parameter-below n name slot t assigned h = record { declared = h; narrowed = tt }

module _ (s : State) (kept : List UnitAtWork) (u : UnitAtWork) (is : s.units ≡ kept ++ u ∷ []) (name : Name) (assigned : Bool) (v : Variable) (n : IsNextParameter name assigned u v)
    (g : Flow) (e : g ≡ with_variable v u.flow) where
  pub parameter-comes : Comes (declares_parameter name assigned) s (Ok tt) (record s { units = kept ++ record u { flow = g } ∷ []; ways = None })
  parameter-comes =
      next _ _ _ _ _ u s (unit-now s kept u is)
      (next _ _ _ _ _ n.ty s (given _ s n.ty n.slot)
      (flow-changed s kept u is (with_variable (parameter name (length u.flow.variables) n.ty assigned)) g
      (subst (SameFlow _) (sym e) (with-same u.flow (parameter name (length u.flow.variables) n.ty assigned) v n.same)) _ refl))

  pub parameter-stands : Stands s → Stands (record s { units = kept ++ record u { flow = g } ∷ []; ways = None })
  parameter-stands h =
      let below = unit-stands s h kept u is in
      let k : ℕ = length s.atoms in
      let p : Variable = parameter name (length u.flow.variables) n.ty assigned in
      known-stands s h kept u is s.blocks g
      (subst (FlowBelow k) (sym e)
      (flow-below k (with_variable p u.flow) (with_variable v u.flow) (with-same u.flow p v n.same)
      (also-has (VariableBelow k) u.flow.variables p below.flow
      (parameter-below k name (length u.flow.variables) n.ty assigned (all-at (SharedBelow k) u.slots (length u.flow.variables) n.ty n.slot below.slots)))))

-- the variable of the next parameter, as it was made
pub next-is : (name : Name) (assigned : Bool) (unit : UnitAtWork) (t u : Shared) (slots : List Shared) (slot number : ℕ) (v : Variable) → slots ≡ unit.slots
    → number ≡ length unit.flow.variables → slot ≡ number → slice_get slots number ≡ Some t → SameShared t u → v ≡ parameter name slot u assigned → IsNextParameter name assigned unit v
next-is name assigned unit t u slots slot number v are count small found same made =
    record {
      ty = t;
      slot = subst (λ ts. slice_get ts (length unit.flow.variables) ≡ Some t) are (subst (λ k. slice_get slots k ≡ Some t) count found);
      same = subst (SameVariable (parameter name (length unit.flow.variables) t assigned)) (sym made)
          (record { variable = record { name = refl; slot = small ∙ count; declared = same; fixed = refl; assigned = refl; captured = refl }; narrowed = tt });
    }
