-- What calls open with: a name, a function value, or a method of a receiver.
use Rattle.std.proofs.Common.{◌≡◌, ◌≤◌, ◌∙◌, ◌++◌, ℕ, Bool, true, false, List, [], ◌∷◌, length, All, Option, Some, None, ap}
use Rattle.bal_base.specs.declared.place.Place.{Place}
use Rattle.bal_tree.specs.declared.name.QualifiedName.{QualifiedName}
use Rattle.bal_tree.specs.declared.name.Word.{Word}
use Rattle.descriptors.specs.declared.names.Names.{Names}
use Rattle.operations.specs.Rows.{Surroundings}
use Rattle.type_model.specs.declared.answers.TypeLimit.{TypeLimit}
use Rattle.type_model.specs.declared.atoms.AtomDef.{AtomDef}
use Rattle.type_model.specs.Calls.{Asked}
use Rattle.typed_tree.specs.declared.expr.TypedExpr.{TypedExpr}
use Rattle.typed_tree.specs.Listed.{one, ◌&◌}
use Rattle.expr_needs.specs.declared.expected.Expected.TheVariants as expected
use Rattle.expr_needs.specs.declared.kind.Kind.TheVariants as kind
use Rattle.expr_needs.specs.ExprTable.{Reading, against, callee_needs, freely, receiver_needs}
use Rattle.expr_needs.specs.Needs.{CallsMethod, CallsNamed, CallsValue}
use Rattle.expr_needs.specs.Operators.{expectation}
use Rattle.check_words.specs.State.{Called, OfValue, State}
use Rattle.check_laws.specs.Laws.{IsReady}
use Rattle.tree_promises.specs.Made.{AreTypedExprs}
use Rattle.typed_needs.specs.Between.{IsKept, IsSoFar, IsTypedUnit, units_in}
use Rattle.typed_needs.specs.Placing.{AreNamed}
use Rattle.calm_needs.specs.Calm.{NeedsAreCalm}
use Rattle.typed_calls.specs.Callees.{AllCalleesAreOpened, CalleesAreOpened, HoldsCallee, IsStartable, opened}
use Rattle.typed_exprs.specs.Lines.{Knows, Path, Run}
use Rattle.typed_exprs.proofs.Loops.{no-units, none-made}
use Rattle.typed_exprs.proofs.Operands.{against-left, against-typed}
use Rattle.typed_exprs.proofs.Operators.{calm-so, step-path}
use Rattle.typed_exprs.proofs.Steps.{before, calm-keeps, parted, path-on, so-far}

module _ (passes : List AtomDef → Asked → TypeLimit → Type 0) (names : Names) (env : List AtomDef) (calm : NeedsAreCalm passes names) (all-callees : AllCalleesAreOpened passes) where
  -- one call more is open, with the parts that belong to it
  pub record Opens (place : Surroundings) (started : Bool) (count : ℕ) (old new : State) : Type 0 where
    pub callee : Called
    pub belong : List TypedExpr
    pub calls : new.calls ≡ old.calls ++ opened callee ∷ []
    pub found : new.found ≡ old.found ++ belong
    pub typed : AreTypedExprs env place belong
    pub units : All (IsTypedUnit env place) (units_in belong)
    pub kept : IsKept place new
    pub holds : HoldsCallee env place count callee belong
    pub startable : started ≡ true → IsStartable callee

  -- ---- what a name, or a value, stands for

  value-path : (f : Reading) → Knows passes names env f → (old new : State) → 1 ≤ length old.units → Run passes names env (against kind.AnyFunction f & one CallsValue) old new → Path old new
  value-path f kf old new unit run =
      let (m, rf, s) = parted passes names env (against kind.AnyFunction f) (one CallsValue) old new run in
      path-on old m new (against-left passes names env kind.AnyFunction f kf old m (record { unit = unit; wants = tt }) rf).path (step-path passes names env calm CallsValue tt m new s)

  pub callee-path : (started : Bool) (name : Option QualifiedName) (f : Reading) (count : ℕ) (at : Place) → Knows passes names env f → (old new : State) → 1 ≤ length old.units
      → Run passes names env (callee_needs started name f count at) old new → Path old new
  callee-path started (Some q) f count at kf old new unit run = step-path passes names env calm (CallsNamed started q count at) tt old new run
  callee-path started None f count at kf old new unit run = value-path f kf old new unit run

  value-opened : (started : Bool) (f : Reading) (count : ℕ) → Knows passes names env f → (place : Surroundings) (old new : State) → 1 ≤ length old.units
      → Run passes names env (against kind.AnyFunction f & one CallsValue) old new → IsKept place old → IsSoFar env place new → AreNamed env names place → Opens place started count old new
  value-opened started f count kf place old new unit run kept far named =
      let (m, rf, s) = parted passes names env (against kind.AnyFunction f) (one CallsValue) old new run in
      let ready : IsReady (expectation kind.AnyFunction) old = record { unit = unit; wants = tt } in
      let left = against-left passes names env kind.AnyFunction f kf old m ready rf in
      let far-m = so-far env place m new (step-path passes names env calm CallsValue tt m new s) far in
      let x = against-typed passes names env kind.AnyFunction f kf place old m ready rf kept far-m named in
      let callees : CalleesAreOpened passes names env place = all-callees names env place in
      let (is, holds) = callees.values count m new x.part s.0 x.holds in
      record {
        callee = OfValue;
        belong = x.part ∷ [];
        calls = ap (λ (t : State). t.calls) is ∙ ap (λ cs. cs ++ opened OfValue ∷ []) left.more.same.calls;
        found = ap (λ (t : State). t.found) is ∙ x.found;
        typed = (x.typed, tt);
        units = x.units;
        kept = calm-keeps place m new (calm-so passes names env calm CallsValue tt m new s) s.1 x.kept;
        holds = holds;
        startable = λ e. tt;
      }

  pub callee-opened : (started : Bool) (name : Option QualifiedName) (f : Reading) (count : ℕ) (at : Place) → Knows passes names env f → (place : Surroundings) (old new : State)
      → 1 ≤ length old.units → Run passes names env (callee_needs started name f count at) old new → IsKept place old → IsSoFar env place new → AreNamed env names place
      → Opens place started count old new
  callee-opened started (Some q) f count at kf place old new unit s kept far named =
      let c = calm-so passes names env calm (CallsNamed started q count at) tt old new s in
      let kept-new = calm-keeps place old new c s.1 kept in
      let callees : CalleesAreOpened passes names env place = all-callees names env place in
      let o = callees.named started q count at old new (before env place new kept-new far) s.0 kept.stored named in
      record {
        callee = o.callee;
        belong = o.parts;
        calls = o.calls;
        found = o.found;
        typed = o.typed;
        units = none-made env place o.parts (no-units old new o.parts o.found c.units);
        kept = kept-new;
        holds = o.holds;
        startable = o.startable;
      }
  callee-opened started None f count at kf place old new unit run kept far named = value-opened started f count kf place old new unit run kept far named

  -- ---- methods

  pub method-path : (a : Reading) (w : Word) (count : ℕ) (at : Place) → Knows passes names env a → (old new : State) → 1 ≤ length old.units
      → Run passes names env (receiver_needs a w count at) old new → Path old new
  method-path a w count at ka old new unit run =
      let (m, ra, s) = parted passes names env (freely a) (one (CallsMethod w count at)) old new run in
      path-on old m new (ka.leaves expected.Nothing old m (record { unit = unit; wants = tt }) ra).path (step-path passes names env calm (CallsMethod w count at) tt m new s)

  pub method-opened : (a : Reading) (w : Word) (count : ℕ) (at : Place) → Knows passes names env a → (place : Surroundings) (old new : State) → 1 ≤ length old.units
      → Run passes names env (receiver_needs a w count at) old new → IsKept place old → IsSoFar env place new → AreNamed env names place → Opens place false count old new
  method-opened a w count at ka place old new unit run kept far named =
      let (m, ra, s) = parted passes names env (freely a) (one (CallsMethod w count at)) old new run in
      let ready : IsReady expected.Nothing old = record { unit = unit; wants = tt } in
      let left = ka.leaves expected.Nothing old m ready ra in
      let far-m = so-far env place m new (step-path passes names env calm (CallsMethod w count at) tt m new s) far in
      let x = ka.claim expected.Nothing place old m ready ra kept far-m named in
      let callees : CalleesAreOpened passes names env place = all-callees names env place in
      let (callee, is, holds) = callees.methods w count at m new x.part (before env place m x.kept far-m) s.0 (record { kept = old.found; is = x.found }) in
      record {
        callee = callee;
        belong = x.part ∷ [];
        calls = ap (λ (t : State). t.calls) is ∙ ap (λ cs. cs ++ opened callee ∷ []) left.more.same.calls;
        found = ap (λ (t : State). t.found) is ∙ x.found;
        typed = (x.typed, tt);
        units = x.units;
        kept = calm-keeps place m new (calm-so passes names env calm (CallsMethod w count at) tt m new s) s.1 x.kept;
        holds = holds;
        startable = λ e. absurd (let bad : ⊥ = cc in bad);
      }
