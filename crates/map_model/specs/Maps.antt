-- Maps of lowered code, as functions of the tree: the types of the operands at each place of what is added for it, the last operand
-- last. They are those that the tree names, and for operations in between those of `Points`.
use Rattle.std.specs.Prelude.{◌++◌, ◌+◌, ℕ, Bool, true, false, List, [], ◌∷◌, Option, Some, None, map}
use Rattle.type_model.specs.declared.basic.SemType.{SemType}
use Rattle.operations.specs.declared.operation.Constant.{Constant}
use Rattle.operations.specs.Rows.{Surroundings}
use Rattle.typed_tree.specs.declared.expr.TypedExpr.{TypedExpr, Strict', Implied, Local as Variable, And', Or', Conditional', Elvis', Check', Trap', Function', Parens', Row_of-TypedExpr, end_of-TypedExpr, more_of-TypedExpr, items-the_row-TypedExpr as exprs_in}
use Rattle.typed_tree.specs.declared.form.Operator.{Operator}
use Rattle.typed_tree.specs.declared.package.Initial.{Initial}
use Rattle.typed_tree.specs.declared.stmt.RangeEnd.TheVariants.{Included, Excluded}
use Rattle.typed_tree.specs.declared.stmt.Source.{Source}
use Rattle.typed_tree.specs.declared.stmt.Source.TheVariants.{Range, List as ListSource}
use Rattle.typed_tree.specs.declared.stmt.TypedPattern.{TypedPattern}
use Rattle.typed_tree.specs.declared.stmt.TypedStmt.{TypedStmt, Set, Perform, Update, If', While', Foreach', Match', Return, Block' as BlockStmt, Break, Continue, Row_of-TypedStmt, end_of-TypedStmt, more_of-TypedStmt, Row_of-TypedClause, end_of-TypedClause, more_of-TypedClause}
use Rattle.typed_tree.specs.declared.stmt.UpdateTarget.{UpdateTarget}
use Rattle.typed_tree.specs.declared.stmt.UpdateTarget.TheVariants as target
use Rattle.typed_tree.specs.declared.unit.Captured.{Captured}
use Rattle.typed_tree.specs.declared.unit.TypedBody.TheVariants.{Block as BlockBody, Expr as ValueBody}
use Rattle.typed_tree.specs.declared.unit.TypedWorker.{TypedWorker}
use Rattle.typed_tree.specs.Exprs.{type_of}
use Rattle.typed_tree.specs.SharedTypes.{sem_of}
use Rattle.typed_tree.specs.Units.{UnitBody, OfFunction, OfWorker, OfAnonymous, OfInitialiser}
use Rattle.eval_model.specs.Expressions.{error_type, narrowed_to, nil_type}
use Rattle.tree_promises.specs.Types.{Stack}
use Rattle.map_model.specs.Points.{PlainTypes, form_points, member_points, operator_points, operator_type, raise_points, slot_type, tested_points, variable_type}

-- maps behind others
abbrev pub Marks : Type 0
Marks = List Stack → List Stack

-- one more
abbrev pub mark : Stack → Marks
mark p m = m ++ p ∷ []

abbrev pub along : List Stack → Marks
along [] m = m
along (s ∷ ss) m = along ss (mark s m)

-- these types above those operands, one by one
abbrev pub above : Stack → Stack → Stack
above p [] = p
above p (t ∷ ts) = above (p ++ t ∷ []) ts

-- at each point above these operands
abbrev pub each : Stack → List Stack → List Stack
each p points = map (above p) points

abbrev pub over : Stack → List Stack → Marks
over p points m = along (each p points) m

-- the type of an expression, which it leaves above what was there
abbrev pub own_type : TypedExpr → SemType
own_type e = sem_of (type_of e)

abbrev pub own_types : List TypedExpr → Stack
own_types es = map own_type es

abbrev pub captured_type : Captured → SemType
captured_type c = sem_of c.ty

module _ (plain : PlainTypes) (place : Surroundings) where
  -- ---- expressions, over these operands

  abbrev pub gets_maps : ℕ → Option SemType → Stack → Marks
  gets_maps slot None p m = mark p m
  gets_maps slot (Some t) p m = mark (p ++ slot_type place slot ∷ []) (mark p m)

  abbrev pub captures_maps : List Captured → Stack → Marks
  captures_maps [] p m = m
  captures_maps (c ∷ cs) p m = captures_maps cs (p ++ captured_type c ∷ []) (gets_maps c.slot (narrowed_to c.narrowed c.ty) p m)

  -- a test, and two ways that meet: the first one ends with this type and a jump
  abbrev pub fork_maps : SemType → Marks → SemType → Marks → Stack → Marks
  fork_maps tested First ends Second p m = Second (mark (p ++ ends ∷ []) (First (mark (p ++ tested ∷ []) m)))

  abbrev mutual
    pub expr_maps : TypedExpr → Stack → Marks
    expr_maps (Strict' form shape operands type at) p m = over p (form_points plain form (own_types (exprs_in _ operands))) (row_maps operands p m)
    expr_maps (Implied value type at) p m = mark p m
    expr_maps (Variable slot narrowed type at) p m = gets_maps slot (narrowed_to narrowed type) p m
    expr_maps (And' _ left _ right type at) p m = fork_maps (own_type left) (expr_maps right p) (own_type right) (mark p) p (expr_maps left p m)
    expr_maps (Or' _ left _ right type at) p m = fork_maps (own_type left) (mark p) (sem_of type) (expr_maps right p) p (expr_maps left p m)
    expr_maps (Conditional' _ condition _ middle _ last type at) p m =
        fork_maps (own_type condition) (expr_maps middle p) (own_type middle) (expr_maps last p) p (expr_maps condition p m)
    expr_maps (Elvis' own _ left _ right type at) p m =
        fork_maps plain.boolean (expr_maps right p) (own_type right) (gets_maps own (Some (sem_of type)) p) p
        (over p (tested_points plain place own (own_type left)) (expr_maps left p m))
    expr_maps (Check' panics own _ operand type at) p m =
        fork_maps plain.boolean (λ k. mark (p ++ error_type ∷ []) (gets_maps own (Some error_type) p k)) (sem_of type) (gets_maps own (Some (sem_of type)) p) p
        (over p (tested_points plain place own (own_type operand)) (expr_maps operand p m))
    expr_maps (Trap' _ operand type at) p m =
        mark (p ++ error_type ∷ []) (mark (p ++ own_type operand ∷ []) (mark (p ++ own_type operand ∷ []) (expr_maps operand p (mark p m))))
    expr_maps (Function' function _ value type at) p m = mark (above p (map captured_type function.value.captured)) (captures_maps function.value.captured p m)
    expr_maps (Parens' _ inner type at) p m = expr_maps inner p m

    pub row_maps : {n : _} → Row_of-TypedExpr n → Stack → Marks
    row_maps end_of-TypedExpr p m = m
    row_maps (more_of-TypedExpr e rest) p m = row_maps rest (p ++ own_type e ∷ []) (expr_maps e p m)

  abbrev pub exprs_maps : List TypedExpr → Stack → Marks
  exprs_maps [] p m = m
  exprs_maps (e ∷ es) p m = exprs_maps es (p ++ own_type e ∷ []) (expr_maps e p m)

  -- an expression, and an operation that takes what it gives
  abbrev pub taken_maps : TypedExpr → Stack → Marks
  taken_maps e p m = mark (p ++ own_type e ∷ []) (expr_maps e p m)

  -- ---- assignments with an operator

  -- this was read: the value, the operator and the store
  abbrev pub stores_maps : SemType → Operator → TypedExpr → Stack → Marks
  stores_maps t op value p m =
      mark (p ++ operator_type plain op ∷ []) (over p (operator_points plain op (t ∷ own_type value ∷ [])) (expr_maps value (p ++ t ∷ []) m))

  abbrev pub update_maps : UpdateTarget → Operator → TypedExpr → Stack → Marks
  update_maps (target.Local slot narrowed type) op value p m = stores_maps (sem_of type) op value p (gets_maps slot (narrowed_to narrowed type) p m)
  update_maps (target.Variable x) op value p m = stores_maps (variable_type place x) op value p (mark p m)
  update_maps (target.Member own how container key type) op value p m =
      stores_maps (sem_of type) op value (above p (slot_type place own ∷ slot_type place (own + 1) ∷ []))
      (over p (member_points plain place how own) (taken_maps key.value p (taken_maps container.value p m)))

  -- ---- loops

  abbrev pub begin_maps : Source → Stack → Marks
  begin_maps (Range own Included from to) p m =
      over p ([] ∷ (slot_type place own ∷ []) ∷ (slot_type place own ∷ slot_type place (own + 1) ∷ []) ∷ (plain.boolean ∷ []) ∷ []) (taken_maps to.value p (taken_maps from.value p m))
  begin_maps (Range own Excluded from to) p m = taken_maps to.value p (taken_maps from.value p m)
  begin_maps (ListSource own list) p m = over p ((own_type list.value ∷ []) ∷ [] ∷ (plain.int ∷ []) ∷ []) (expr_maps list.value p m)

  -- whether there is a further round
  abbrev pub tries_points : Source → List Stack
  tries_points (Range own Included from to) = [] ∷ []
  tries_points (Range own Excluded from to) = [] ∷ (slot_type place own ∷ []) ∷ (slot_type place own ∷ slot_type place (own + 1) ∷ []) ∷ []
  tries_points (ListSource own list) =
      raise_points plain place (own + 1)
      ++ [] ∷ (slot_type place (own + 1) ∷ []) ∷ (slot_type place (own + 1) ∷ slot_type place own ∷ []) ∷ (slot_type place (own + 1) ∷ plain.int ∷ []) ∷ []

  abbrev pub tried_type : Source → SemType
  tried_type (Range own Included from to) = slot_type place (own + 2)
  tried_type (Range own Excluded from to) = plain.boolean
  tried_type (ListSource own list) = plain.boolean

  abbrev pub next_points : ℕ → ℕ → List Stack
  next_points own slot =
      [] ∷ (slot_type place own ∷ []) ∷ [] ∷ (slot_type place own ∷ []) ∷ (slot_type place own ∷ slot_type place (own + 1) ∷ []) ∷ (plain.boolean ∷ []) ∷ [] ∷ []

  -- the variable gets its value
  abbrev pub prepare_maps : ℕ → Source → Stack → Marks
  prepare_maps slot (Range own Included from to) p m =
      mark p (over p (raise_points plain place own) (mark (p ++ slot_type place (own + 2) ∷ []) (over p (next_points own slot) m)))
  prepare_maps slot (Range own Excluded from to) p m = over p ([] ∷ (slot_type place own ∷ []) ∷ raise_points plain place own) m
  prepare_maps slot (ListSource own list) p m =
      over p ([] ∷ (slot_type place own ∷ []) ∷ (slot_type place own ∷ slot_type place (own + 1) ∷ []) ∷ (slot_type place slot ∷ []) ∷ []) m

  -- the tick, the test, and a jump back
  abbrev pub loop_maps : Marks → SemType → Marks → Marks → Stack → Marks
  loop_maps Tries tested Prepares Body p m = mark p (Body (Prepares (mark (p ++ tested ∷ []) (Tries (mark p m)))))

  -- ---- statements, which leave nothing above these operands

  abbrev pub pattern_maps : ℕ → Option Constant → Stack → Marks
  pattern_maps own (Some c) p m = mark p (mark (p ++ plain.boolean ∷ []) (along (p ∷ (p ++ slot_type place own ∷ []) ∷ []) m))
  pattern_maps own None p m = mark p m

  abbrev pub patterns_maps : ℕ → List TypedPattern → Stack → Marks
  patterns_maps own [] p m = m
  patterns_maps own (t ∷ ts) p m = patterns_maps own ts p (pattern_maps own t.value p m)

  abbrev mutual
    pub stmt_maps : TypedStmt → Stack → Marks
    stmt_maps (Set slot value at) p m = taken_maps value.value p m
    stmt_maps (Perform form operands at) p m = mark (above p (own_types operands.items)) (exprs_maps operands.items p m)
    stmt_maps (Update t op value at) p m = update_maps t op value.value p m
    stmt_maps (If' condition shape first shape' second at) p m = stmts_maps second p (mark p (stmts_maps first p (taken_maps condition.value p m)))
    stmt_maps (While' condition shape body at) p m = loop_maps (expr_maps condition.value p) (own_type condition.value) (λ k. k) (stmts_maps body p) p m
    stmt_maps (Foreach' slot source shape body at) p m =
        loop_maps (over p (tries_points source)) (tried_type source) (prepare_maps slot source p) (stmts_maps body p) p (begin_maps source p m)
    stmt_maps (Match' own subject shape clauses at) p m = clauses_maps own clauses p (taken_maps subject.value p m)
    stmt_maps (Return None at) p m = mark (p ++ nil_type ∷ []) (mark p m)
    stmt_maps (Return (Some e) at) p m = taken_maps e.value p m
    stmt_maps (BlockStmt shape stmts at) p m = stmts_maps stmts p m
    stmt_maps (Break at) p m = mark p m
    stmt_maps (Continue at) p m = mark p m

    pub stmts_maps : {n : _} → Row_of-TypedStmt n → Stack → Marks
    stmts_maps end_of-TypedStmt p m = m
    stmts_maps (more_of-TypedStmt s rest) p m = stmts_maps rest p (stmt_maps s p m)

    -- the patterns and a jump over the body; the body and a jump to the end
    pub clauses_maps : {n : _} → ℕ → Row_of-TypedClause n → Stack → Marks
    clauses_maps own end_of-TypedClause p m = m
    clauses_maps own (more_of-TypedClause patterns shape stmts at rest) p m =
        clauses_maps own rest p (mark p (stmts_maps stmts p (mark p (patterns_maps own patterns.items p m))))

  abbrev pub block_maps : List TypedStmt → Stack → Marks
  block_maps [] p m = m
  block_maps (s ∷ ss) p m = block_maps ss p (stmt_maps s p m)

  -- ---- units, which begin with no operands

  abbrev pub named_maps : List TypedWorker → Marks
  named_maps [] m = m
  named_maps (w ∷ ws) m = mark [] m

  abbrev pub initials_maps : List Initial → Marks
  initials_maps [] m = m
  initials_maps (i ∷ is) m = initials_maps is (taken_maps i.value.value [] m)

  abbrev pub end_maps : Bool → Marks
  end_maps true m = mark (nil_type ∷ []) (mark [] m)
  end_maps false m = mark [] (mark [] m)

  abbrev pub body_maps : UnitBody → Marks
  body_maps (OfFunction (BlockBody initial workers rest ends close)) m =
      end_maps ends (block_maps rest.items [] (named_maps workers.items (block_maps initial.items [] m)))
  body_maps (OfFunction (ValueBody value)) m = taken_maps value.value [] m
  body_maps (OfWorker stmts ends) m = end_maps ends (block_maps stmts [] m)
  body_maps (OfAnonymous value) m = taken_maps value [] m
  body_maps (OfInitialiser values) m = end_maps true (initials_maps values m)

  abbrev pub unit_maps : UnitBody → Marks
  unit_maps body m = body_maps body (mark [] m)
