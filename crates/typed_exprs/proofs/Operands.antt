-- Operands of a construct, one behind another, and what is asked of them.
use Rattle.std.proofs.Common.{◌≡◌, ◌∙◌, ◌++◌, ℕ, List, [], ◌∷◌, All, append_assoc, sym, subst, ap}
use Rattle.std.specs.Prelude.{⊤}
use Rattle.std.proofs.lemmas.List.Elements.{All-append}
use Rattle.bal_base.specs.declared.place.Place.{Place}
use Rattle.descriptors.specs.declared.names.Names.{Names}
use Rattle.operations.specs.Rows.{Surroundings}
use Rattle.type_model.specs.declared.answers.TypeLimit.{TypeLimit}
use Rattle.type_model.specs.declared.atoms.AtomDef.{AtomDef}
use Rattle.type_model.specs.Calls.{Asked}
use Rattle.typed_tree.specs.declared.expr.TypedExpr.{TypedExpr}
use Rattle.typed_tree.specs.Listed.{one}
use Rattle.expr_needs.specs.declared.kind.Kind.{Kind}
use Rattle.expr_needs.specs.declared.kind.Kind.TheVariants as kind
use Rattle.expr_needs.specs.ExprTable.{Reading, against}
use Rattle.expr_needs.specs.Needs.{IsOf}
use Rattle.expr_needs.specs.Operators.{expectation}
use Rattle.check_words.specs.State.{IsLast, State}
use Rattle.check_laws.specs.Laws.{IsReady, IsWantedBy}
use Rattle.tree_promises.specs.Types.{IsTypedExpr}
use Rattle.typed_needs.specs.Asked.{IsOfIt}
use Rattle.typed_needs.specs.Between.{IsKept, IsSoFar, IsTypedUnit, units_in}
use Rattle.typed_needs.specs.Placing.{AreNamed}
use Rattle.typed_needs.specs.TypedRuns.{ComesToTyped}
use Rattle.typed_needs.proofs.Asking.{is-of-leaves}
use Rattle.typed_needs.proofs.Opened.{kind-is-asked}
use Rattle.calm_needs.proofs.PlacedParts.{units-append}
use Rattle.typed_exprs.proofs.Steps.{Step, before, parted}
use Rattle.typed_exprs.specs.Lines.{Knows, Left, Run}

module _ (passes : List AtomDef → Asked → TypeLimit → Type 0) (names : Names) (env : List AtomDef) where
  -- one part more, of which this holds
  pub record Operand (place : Surroundings) (P : TypedExpr → Type 0) (old new : State) : Type 0 where
    pub part : TypedExpr
    pub found : new.found ≡ old.found ++ part ∷ []
    pub typed : IsTypedExpr env place part
    pub units : All (IsTypedUnit env place) (units_in (part ∷ []))
    pub kept : IsKept place new
    pub holds : P part

  pub as-operand : (place : Surroundings) (old new : State) → ComesToTyped env place old new → Operand place (λ e. ⊤) old new
  as-operand place old new c = record { part = c.part; found = c.found; typed = c.typed; units = c.units; kept = c.kept; holds = tt }

  pub last-of : (place : Surroundings) (P : TypedExpr → Type 0) (old new : State) (o : Operand place P old new) → IsLast new.found o.part
  last-of place P old new o = record { kept = old.found; is = o.found }

  -- ---- what is expected where nothing is handed on

  pub none-expected : (k : Kind) (many : ℕ) → IsWantedBy (expectation k) many
  none-expected kind.Integer many = tt
  none-expected kind.Text many = tt
  none-expected kind.IntOrText many = tt
  none-expected kind.Truth many = tt
  none-expected kind.Nothing many = tt
  none-expected kind.Anydata many = tt
  none-expected kind.Sendable many = tt
  none-expected kind.AnyList many = tt
  none-expected kind.AnyMapping many = tt
  none-expected kind.MappingOrNil many = tt
  none-expected kind.AnyFunction many = tt
  none-expected kind.AnyError many = tt
  none-expected kind.ErrorOrNil many = tt
  none-expected kind.AnyFuture many = tt

  -- ---- an operand of a kind

  kind-asked : (k : Kind) (at : Place) (old new : State) → Step passes names env (IsOf k at) old new → new ≡ old
  kind-asked k at old new s = is-of-leaves passes k at old new tt s.0

  pub against-left : (k : Kind) (a : Reading) → Knows passes names env a → (old new : State) → IsReady (expectation k) old → Run passes names env (against k a) old new → Left old new
  against-left k a knows old new ready run =
      let (mid, ra, rs) = parted passes names env (a.needs (expectation k)) (one (IsOf k a.at)) old new run in
      let left = knows.leaves (expectation k) old mid ready ra in
      let same : new ≡ mid = kind-asked k a.at mid new rs in
      subst (λ (s : State). Left old s) (sym same) left

  pub against-typed : (k : Kind) (a : Reading) → Knows passes names env a → (place : Surroundings) (old new : State) → IsReady (expectation k) old → Run passes names env (against k a) old new
      → IsKept place old → IsSoFar env place new → AreNamed env names place → Operand place (IsOfIt passes names env k) old new
  against-typed k a knows place old new ready run kept far named =
      let (mid, ra, rs) = parted passes names env (a.needs (expectation k)) (one (IsOf k a.at)) old new run in
      let same : new ≡ mid = kind-asked k a.at mid new rs in
      let far' : IsSoFar env place mid = subst (IsSoFar env place) same far in
      let c = knows.claim (expectation k) place old mid ready ra kept far' named in
      let asked = kind-is-asked env passes names k a.at mid new c.part (before env place mid c.kept far') rs.0 (record { kept = old.found; is = c.found }) in
      subst (λ (s : State). Operand place (IsOfIt passes names env k) old s) (sym same)
      (record { part = c.part; found = c.found; typed = c.typed; units = c.units; kept = c.kept; holds = asked.0 })

  -- ---- two operands

  pub two-found : (old m n : State) (a b : TypedExpr) → m.found ≡ old.found ++ a ∷ [] → n.found ≡ m.found ++ b ∷ [] → n.found ≡ old.found ++ a ∷ b ∷ []
  two-found old m n a b first second = second ∙ ap (λ xs. xs ++ b ∷ []) first ∙ append_assoc old.found (a ∷ []) (b ∷ [])

  pub two-units : (place : Surroundings) (a b : TypedExpr) → All (IsTypedUnit env place) (units_in (a ∷ [])) → All (IsTypedUnit env place) (units_in (b ∷ []))
      → All (IsTypedUnit env place) (units_in (a ∷ b ∷ []))
  two-units place a b h k =
      subst (All (IsTypedUnit env place)) (sym (units-append (a ∷ []) (b ∷ []))) (All-append (IsTypedUnit env place) (units_in (a ∷ [])) (units_in (b ∷ [])) h k)
