-- What is made of typed parts: for each statement, what its parts have to be so that the whole is typed.
use Rattle.std.specs.Prelude.{◌≡◌, ◌++◌, ℕ, Bool, true, false, List, [], ◌∷◌, map, Option, Some, None, slice_get, ⊤}
use Rattle.std.specs.Global.{Box, Vec}
use Rattle.bal_base.specs.declared.place.Place.{Place}
use Rattle.type_model.specs.declared.atoms.AtomDef.{AtomDef}
use Rattle.type_model.specs.declared.basic.SemType.{SemType}
use Rattle.type_model.specs.Inclusion.{HasExactly, Sub}
use Rattle.operations.specs.declared.operation.Operation.{Operation}
use Rattle.operations.specs.declared.operation.Operation.TheVariants.{LoadModule, StoreModule}
use Rattle.operations.specs.Kinds.{IsBoolean}
use Rattle.operations.specs.Rows.{Surroundings}
use Rattle.operations.specs.Typing.{OpTyped}
use Rattle.typed_tree.specs.declared.expr.TypedExpr.{TypedExpr}
use Rattle.typed_tree.specs.declared.form.Operator.{Operator}
use Rattle.typed_tree.specs.declared.stmt.PerformForm.{PerformForm}
use Rattle.typed_tree.specs.declared.stmt.TypedClause.{TypedClause, out-TypedClause}
use Rattle.typed_tree.specs.declared.stmt.TypedStmt.{TypedStmt, out-TypedStmt}
use Rattle.typed_tree.specs.declared.stmt.TypedStmt.TheOpen as layer
use Rattle.typed_tree.specs.declared.stmt.UpdateTarget.TheVariants as target
use Rattle.typed_tree.specs.SharedTypes.{Shared, sem_of}
use Rattle.held_operations.specs.Constructs.{operator_operations, perform_operations}
use Rattle.eval_model.specs.Expressions.{nil_type}
use Rattle.eval_model.specs.Walk.{BlockOver, StmtOver}
use Rattle.eval_model.specs.Ways.{Turns}
use Rattle.tree_promises.specs.Made.{AreTypedExprs, Booleans, LeadsTo, sem}
use Rattle.tree_promises.specs.Types.{IsTypedExpr, Stack, type_ways}

-- no operand waits where a turn of a loop begins, nor behind it
abbrev pub around_stmt : Bool → Option (Turns Stack)
around_stmt true = Some (record { head = []; exit = [] })
around_stmt false = None

module _ (env : List AtomDef) (place : Surroundings) where
  -- no operand waits before a statement, nor behind it; `inside`: it stands in a loop
  abbrev pub IsTypedStmt : Bool → TypedStmt → Type 0
  IsTypedStmt inside s = StmtOver (type_ways env place) s (around_stmt inside) [] []

  abbrev pub AreTypedStmts : Bool → List TypedStmt → Type 0
  AreTypedStmts inside ss = BlockOver (type_ways env place) ss (around_stmt inside) [] []

  abbrev pub AreTypedClauses : Bool → List TypedClause → Type 0
  AreTypedClauses inside [] = ⊤
  AreTypedClauses inside (c ∷ cs) = AreTypedStmts inside (out-TypedClause c).stmts.items × AreTypedClauses inside cs

  -- the slot is of this declared type, and what it holds is read as this one
  abbrev pub IsReadAs : ℕ → Bool → SemType → SemType → Type 0
  IsReadAs slot true s t = slice_get place.slots slot ≡ Some s
  IsReadAs slot false s t = (slice_get place.slots slot ≡ Some s) × Sub env s t

  -- `truth`: a type of the booleans
  pub record MadeStmtIsTyped (truth : SemType) (inside : Bool) (s : TypedStmt) (at : Place) : Type 0 where
    pub set : (slot : ℕ) (value : Box TypedExpr) (t : SemType) → out-TypedStmt s ≡ layer.Set slot value at → IsTypedExpr env place value.value
        → slice_get place.slots slot ≡ Some t → Sub env (sem value.value) t → IsTypedStmt inside s
    -- by a row that gives nothing
    pub performed : (form : PerformForm) (op : Operation) (parts : Vec TypedExpr) → out-TypedStmt s ≡ layer.Perform form parts at
        → perform_operations form ≡ op ∷ [] → AreTypedExprs env place parts.items → OpTyped env place op (map sem parts.items) None → IsTypedStmt inside s
    -- what the operator gives of what is read and of the value is below the declared type
    pub local_updated : (slot : ℕ) (narrowed : Bool) (t : Shared) (op : Operator) (value : Box TypedExpr) (declared r : SemType)
        → out-TypedStmt s ≡ layer.Update (target.Local slot narrowed t) op value at → IsTypedExpr env place value.value
        → IsReadAs slot narrowed declared (sem_of t) → LeadsTo env place (operator_operations op) (sem_of t ∷ sem value.value ∷ []) r
        → Sub env r declared → IsTypedStmt inside s
    pub variable_updated : (x : ℕ) (op : Operator) (value : Box TypedExpr) (t r : SemType)
        → out-TypedStmt s ≡ layer.Update (target.Variable x) op value at → IsTypedExpr env place value.value → OpTyped env place (LoadModule x) [] (Some t)
        → LeadsTo env place (operator_operations op) (t ∷ sem value.value ∷ []) r → OpTyped env place (StoreModule x) (r ∷ []) None → IsTypedStmt inside s
    pub branched : (c : Box TypedExpr) (first second : Vec TypedStmt) → out-TypedStmt s ≡ layer.If c first second at → IsTypedExpr env place c.value
        → Booleans env (sem c.value) → AreTypedStmts inside first.items → AreTypedStmts inside second.items → IsTypedStmt inside s
    pub repeated : (c : Box TypedExpr) (body : Vec TypedStmt) → out-TypedStmt s ≡ layer.While c body at → IsTypedExpr env place c.value
        → Booleans env (sem c.value) → AreTypedStmts true body.items → IsTypedStmt inside s
    pub matched : (own : ℕ) (subject : Box TypedExpr) (clauses : Vec TypedClause) (t : SemType) → HasExactly env truth IsBoolean
        → out-TypedStmt s ≡ layer.Match own subject clauses at → IsTypedExpr env place subject.value
        → slice_get place.slots own ≡ Some t → Sub env (sem subject.value) t → AreTypedClauses inside clauses.items → IsTypedStmt inside s
    pub returned : (value : Box TypedExpr) → out-TypedStmt s ≡ layer.Return (Some value) at → IsTypedExpr env place value.value
        → Sub env (sem value.value) place.result → IsTypedStmt inside s
    pub nil_returned : out-TypedStmt s ≡ layer.Return None at → Sub env nil_type place.result → IsTypedStmt inside s
    pub blocked : (ss : Vec TypedStmt) → out-TypedStmt s ≡ layer.Block ss at → AreTypedStmts inside ss.items → IsTypedStmt inside s
    -- in loops alone
    pub broken : out-TypedStmt s ≡ layer.Break at → inside ≡ true → IsTypedStmt inside s
    pub continued : out-TypedStmt s ≡ layer.Continue at → inside ≡ true → IsTypedStmt inside s

  -- statements one behind another
  pub record MadeStmtsAreTyped (inside : Bool) : Type 0 where
    pub none : AreTypedStmts inside []
    pub one_more : (ss : List TypedStmt) (s : TypedStmt) → AreTypedStmts inside ss → IsTypedStmt inside s → AreTypedStmts inside (ss ++ s ∷ [])
