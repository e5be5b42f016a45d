-- Typed statements of typed parts.
use Rattle.std.proofs.Common.{◌≡◌, ◌++◌, ℕ, Bool, true, false, List, [], ◌∷◌, map, Option, Some, None, refl, sym, subst}
use Rattle.std.specs.Prelude.{slice_get}
use Rattle.std.specs.Global.{Box, Vec}
use Rattle.bal_base.specs.declared.place.Place.{Place}
use Rattle.bal_base.specs.declared.shape.Shape.{Shape, Nil as NilShape}
use Rattle.type_model.specs.declared.atoms.AtomDef.{AtomDef}
use Rattle.type_model.specs.declared.basic.BasicSet.TheVariants.{Nil as NilOnly}
use Rattle.type_model.specs.declared.basic.SemType.{SemType}
use Rattle.type_model.specs.Basic.{InBasic}
use Rattle.type_model.specs.Inclusion.{HasExactly, Sub}
use Rattle.operations.specs.declared.operation.Constant.{Constant}
use Rattle.operations.specs.declared.operation.Constant.TheVariants as constant
use Rattle.operations.specs.declared.operation.Operation.{Operation}
use Rattle.operations.specs.declared.operation.Operation.TheVariants.{LoadModule, Return, StoreModule, Test, Tick}
use Rattle.operations.specs.Kinds.{IsBoolean}
use Rattle.operations.specs.Rows.{ResultHas, Surroundings}
use Rattle.operations.specs.Typing.{OpTyped}
use Rattle.typed_tree.specs.declared.expr.TypedExpr.{TypedExpr}
use Rattle.typed_tree.specs.declared.form.Operator.{Operator}
use Rattle.typed_tree.specs.declared.stmt.PerformForm.{PerformForm}
use Rattle.typed_tree.specs.declared.stmt.TypedClause.{TypedClause, out-TypedClause}
use Rattle.typed_tree.specs.declared.stmt.TypedPattern.{TypedPattern}
use Rattle.typed_tree.specs.declared.stmt.TypedStmt.{TypedStmt, TypedStmt-F, out-TypedStmt}
use Rattle.typed_tree.specs.declared.stmt.TypedStmt.TheOpen as layer
use Rattle.typed_tree.specs.declared.stmt.UpdateTarget.TheVariants as target
use Rattle.typed_tree.specs.SharedTypes.{Shared, sem_of}
use Rattle.held_operations.specs.Constructs.{operator_operations, perform_operations}
use Rattle.held_operations.specs.Operation.{singleton}
use Rattle.eval_model.specs.Expressions.{narrowed_to, nil_type}
use Rattle.eval_model.specs.Walk.{BlockOver, LeavesOver, OpsOver, PatternOver, PatternsOver}
use Rattle.eval_model.specs.Ways.{Turns, Ways}
use Rattle.tree_promises.specs.Layers.{ClausesLayerOver, StmtLayerOver}
use Rattle.tree_promises.specs.Made.{AreTypedExprs, Booleans, LeadsTo, sem}
use Rattle.tree_promises.specs.MadeStmts.{AreTypedClauses, AreTypedStmts, IsReadAs, IsTypedStmt, MadeStmtIsTyped, MadeStmtsAreTyped, around_stmt}
use Rattle.tree_promises.specs.Types.{DoesTypes, GetsTypes, IsTypedExpr, Stack, type_ways}
use Rattle.tree_promises.proofs.Layered.{stmt-by-layer}
use Rattle.tree_promises.proofs.Pieces.{parts-over}
use Rattle.tree_promises.proofs.Rows.{cast-given, const-given, does-row, load-given, one-row, store-taken, takes-last, truth-has, truth-is}

module _ (env : List AtomDef) (place : Surroundings) (inside : Bool) where
  abbrev W : Ways Stack
  W = type_ways env place

  abbrev Loop : Option (Turns Stack)
  Loop = around_stmt inside

  abbrev Typed : TypedExpr → Type 0
  Typed e = IsTypedExpr env place e

  -- a row that gives nothing
  silent-row : (op : Operation) (operands : Stack) → OpTyped env place op operands None → OpsOver W (op ∷ []) operands []
  silent-row op operands row = ([], record { below = []; operands = operands; result = None; are = refl; row = row; behind = λ goes. tt }, tt)

  -- what is returned is of the result; nothing is behind it
  returns : (t : SemType) (end : Stack) → Sub env t place.result → DoesTypes env place Return (t ∷ []) end
  returns t end under =
      record { below = []; operands = t ∷ []; result = None; are = refl; row = ((λ x i. under x i.0 i.1), refl); behind = λ goes. absurd (goes tt) }

  pub ticks : DoesTypes env place Tick [] []
  ticks = record { below = []; operands = []; result = None; are = refl; row = (refl, refl); behind = λ goes. tt }

  -- ---- variables that are read

  read-as : (slot : ℕ) (narrowed : Bool) (s : SemType) (t : Shared) → IsReadAs env place slot narrowed s (sem_of t)
      → GetsTypes env place slot (narrowed_to narrowed t) [] (sem_of t ∷ [])
  read-as slot true s t held = cast-given env place slot [] s (sem_of t) (sem_of t) held (λ x valid i. i.1)
  read-as slot false s t (held, under) = load-given env place slot [] s (sem_of t) held under

  declared-as : (slot : ℕ) (narrowed : Bool) (s t : SemType) → IsReadAs env place slot narrowed s t → slice_get place.slots slot ≡ Some s
  declared-as slot true s t held = held
  declared-as slot false s t h = h.0

  -- ---- matches

  module _ (truth : SemType) (is : HasExactly env truth IsBoolean) (own : ℕ) (t : SemType) (held : slice_get place.slots own ≡ Some t) where
    pattern-over : (c : Option Constant) (Next : Stack → Type 0) → Next [] → PatternOver W own c Next [] []
    pattern-over None Next next = tt
    pattern-over (Some c) Next next = (
      truth ∷ [],
      [],
      [],
      (
        t ∷ [],
        load-given env place own [] t t held (λ x valid i. i),
        one-row env place (Test (singleton c)) (t ∷ []) truth (truth-has env place truth is) [],
      ),
      takes-last env place [] truth (truth-is env place truth is),
      tt,
      takes-last env place [] truth (truth-is env place truth is),
      next,
    )

    patterns-over : (ps : List TypedPattern) → PatternsOver W own ps [] [] []
    patterns-over [] = tt
    patterns-over (p ∷ ps) = pattern-over p.value (λ n. PatternsOver W own ps [] n []) (patterns-over ps)

    clauses-over : (cs : List TypedClause) → AreTypedClauses env place inside cs → ClausesLayerOver W cs Loop own [] []
    clauses-over [] typed = tt
    clauses-over (c ∷ cs) (first, more) = ([], [], [], patterns-over (out-TypedClause c).patterns.items, first, tt, clauses-over cs more)

  -- ---- ways by layers

  abbrev Over : TypedStmt-F TypedStmt TypedClause → Type 0
  Over l = StmtLayerOver W l Loop [] []

  set : (slot : ℕ) (value : Box TypedExpr) (at : Place) (t : SemType) → Typed value.value → slice_get place.slots slot ≡ Some t
      → Sub env (sem value.value) t → Over (layer.Set slot value at)
  set slot value at t typed held under = (sem value.value ∷ [], typed [], store-taken env place slot [] (sem value.value) t held under)

  performed : (form : PerformForm) (op : Operation) (parts : Vec TypedExpr) (at : Place) → perform_operations form ≡ op ∷ []
      → AreTypedExprs env place parts.items → OpTyped env place op (map sem parts.items) None → Over (layer.Perform form parts at)
  performed form op parts at ops typed row = (
    map sem parts.items,
    parts-over env place parts.items [] typed,
    subst (λ os. OpsOver W os (map sem parts.items) []) (sym ops) (silent-row op (map sem parts.items) row),
  )

  local-updated : (slot : ℕ) (narrowed : Bool) (t : Shared) (op : Operator) (value : Box TypedExpr) (at : Place) (declared r : SemType) → Typed value.value
      → IsReadAs env place slot narrowed declared (sem_of t) → LeadsTo env place (operator_operations op) (sem_of t ∷ sem value.value ∷ []) r
      → Sub env r declared → Over (layer.Update (target.Local slot narrowed t) op value at)
  local-updated slot narrowed t op value at declared r typed read leads under = (
    sem_of t ∷ [],
    sem_of t ∷ sem value.value ∷ [],
    r ∷ [],
    read-as slot narrowed declared t read,
    typed (sem_of t ∷ []),
    leads [],
    store-taken env place slot [] r declared (declared-as slot narrowed declared (sem_of t) read) under,
  )

  variable-updated : (x : ℕ) (op : Operator) (value : Box TypedExpr) (at : Place) (t r : SemType) → Typed value.value
      → OpTyped env place (LoadModule x) [] (Some t) → LeadsTo env place (operator_operations op) (t ∷ sem value.value ∷ []) r
      → OpTyped env place (StoreModule x) (r ∷ []) None → Over (layer.Update (target.Variable x) op value at)
  variable-updated x op value at t r typed read leads stores = (
    t ∷ [],
    t ∷ sem value.value ∷ [],
    r ∷ [],
    does-row env place (LoadModule x) [] [] t read,
    typed (t ∷ []),
    leads [],
    record { below = []; operands = r ∷ []; result = None; are = refl; row = stores; behind = λ goes. tt },
  )

  branched : (c : Box TypedExpr) (first second : Vec TypedStmt) (at : Place) → Typed c.value → Booleans env (sem c.value)
      → AreTypedStmts env place inside first.items → AreTypedStmts env place inside second.items → Over (layer.If c first second at)
  branched c first second at typed boolean f g = (
    sem c.value ∷ [],
    typed [],
    ([], [], [], [], takes-last env place [] (sem c.value) boolean, f, tt, takes-last env place [] (sem c.value) boolean, g, tt),
  )

  repeated : (c : Box TypedExpr) (body : Vec TypedStmt) (at : Place) → Typed c.value → Booleans env (sem c.value)
      → AreTypedStmts env place true body.items → Over (layer.While c body at)
  repeated c body at typed boolean f =
      let taken = takes-last env place [] (sem c.value) boolean in
      (record { head = []; exit = [] }, tt, ([], sem c.value ∷ [], [], [], [], [], ticks, typed [], taken, taken, tt, tt, f, tt), tt)

  -- in a loop nothing waits where it goes on
  leaves : (b : Bool) → b ≡ true → LeavesOver W (around_stmt b) (λ l. l.exit) [] × LeavesOver W (around_stmt b) (λ l. l.head) []
  leaves true is = (tt, tt)
  leaves false is = absurd (let bad : ⊥ = cc in bad)

  -- ---- statements

  pub made-stmt-is-typed : (truth : SemType) (s : TypedStmt) (at : Place) → MadeStmtIsTyped env place truth inside s at
  made-stmt-is-typed truth s at =
      record {
        set = λ slot value t is typed held under. view (layer.Set slot value at) is (set slot value at t typed held under);
        performed = λ form op parts is ops typed row. view (layer.Perform form parts at) is (performed form op parts at ops typed row);
        local_updated = λ slot narrowed t op value declared r is typed read leads under.
            view (layer.Update (target.Local slot narrowed t) op value at) is (local-updated slot narrowed t op value at declared r typed read leads under);
        variable_updated = λ x op value t r is typed read leads stores.
            view (layer.Update (target.Variable x) op value at) is (variable-updated x op value at t r typed read leads stores);
        branched = λ c first second is typed boolean f g. view (layer.If c first second at) is (branched c first second at typed boolean f g);
        repeated = λ c body is typed boolean f. view (layer.While c body at) is (repeated c body at typed boolean f);
        matched = λ own subject clauses t boolean is typed held under cs.
            view (layer.Match own subject clauses at) is (sem subject.value ∷ [], [], typed [], store-taken env place own [] (sem subject.value) t held under, clauses-over truth boolean own t held clauses.items cs);
        returned = λ value is typed under. view (layer.Return (Some value) at) is (sem value.value ∷ [], typed [], returns (sem value.value) [] under);
        nil_returned = λ is under.
            view (layer.Return None at) is (nil_type ∷ [], const-given env place constant.Nil [] nil_type nil-has, ([], returns nil_type [] under, tt));
        blocked = λ ss is typed. view (layer.Block ss at) is typed;
        broken = λ is loops. view (layer.Break at) is ((leaves inside loops).0, tt);
        continued = λ is loops. view (layer.Continue at) is ((leaves inside loops).1, tt);
      }
    where
      view : (l : TypedStmt-F TypedStmt TypedClause) → out-TypedStmt s ≡ l → Over l → IsTypedStmt env place inside s
      view l is way = stmt-by-layer W s Loop [] [] (subst (λ k. StmtLayerOver W k Loop [] []) (sym is) way)

      nil-has : ResultHas env (Some nil_type) (λ x. x ≡ NilShape)
      nil-has x valid e = subst (λ (z : Shape). InBasic z NilOnly) (sym e) tt

  -- ---- one behind another

  one-behind : (ss : List TypedStmt) (s : TypedStmt) (p : Stack) → BlockOver W ss Loop p [] → IsTypedStmt env place inside s → BlockOver W (ss ++ s ∷ []) Loop p []
  one-behind [] s [] c typed = ([], typed, tt)
  one-behind [] s (t ∷ p) c typed = absurd c
  one-behind (x ∷ ss) s p (m, at, more) typed = (m, at, one-behind ss s m more typed)

  pub made-stmts-are-typed : MadeStmtsAreTyped env place inside
  made-stmts-are-typed = record { none = tt; one_more = λ ss s typed stmt. one-behind ss s [] typed stmt }
