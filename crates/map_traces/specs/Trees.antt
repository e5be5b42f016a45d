-- What trees do with the operands, construct by construct.
use Rattle.std.specs.Prelude.{◌+◌, ℕ, Bool, true, false, List, [], ◌∷◌, Option, Some, None, length, map}
use Rattle.std.specs.Global.{Box}
use Rattle.operations.specs.declared.operation.Constant.{Constant}
use Rattle.typed_tree.specs.declared.expr.TypedExpr.{TypedExpr}
use Rattle.typed_tree.specs.declared.expr.TypedExpr.TheOpen as layer
use Rattle.typed_tree.specs.declared.form.Operator.{Operator}
use Rattle.typed_tree.specs.declared.package.Initial.{Initial}
use Rattle.typed_tree.specs.declared.stmt.RangeEnd.TheVariants.{Included, Excluded}
use Rattle.typed_tree.specs.declared.stmt.Source.{Source}
use Rattle.typed_tree.specs.declared.stmt.Source.TheVariants.{Range, List as ListSource}
use Rattle.typed_tree.specs.declared.stmt.TypedPattern.{TypedPattern}
use Rattle.typed_tree.specs.declared.stmt.TypedStmt.{TypedStmt, TypedStmt-F, fold-TypedStmt}
use Rattle.typed_tree.specs.declared.stmt.TypedStmt.TheOpen as stmt_layer
use Rattle.typed_tree.specs.declared.stmt.TypedClause.{TypedClause, TypedClause-F, fold-TypedClause}
use Rattle.typed_tree.specs.declared.stmt.UpdateTarget.{UpdateTarget}
use Rattle.typed_tree.specs.declared.stmt.UpdateTarget.TheVariants as target
use Rattle.typed_tree.specs.declared.unit.TypedBody.TheVariants.{Block as BlockBody, Expr as ValueBody}
use Rattle.typed_tree.specs.declared.unit.TypedWorker.{TypedWorker}
use Rattle.typed_tree.specs.ExprLayers.{TypedExprOf, of_typed_expr}
use Rattle.typed_tree.specs.SharedTypes.{sem_of}
use Rattle.typed_tree.specs.Units.{UnitBody, OfFunction, OfWorker, OfAnonymous, OfInitialiser}
use Rattle.eval_model.specs.Expressions.{error_type, nil_type}
use Rattle.map_model.specs.Points.{operator_type}
use Rattle.map_traces.specs.Constructs.{Known, captures_loaded, form_traced, loads, member_read, operator_traced, raised, slot_known, tested, variable_known}
use Rattle.map_traces.specs.Tracing.{Tracing, becomes, drops, gives, in_turn, leaves, place, takes}

-- ways part by the last operand, and the first one ends with what it gave
abbrev pub forks : (Tracing → Tracing) → (Tracing → Tracing) → Tracing → Tracing
forks First Second s = Second (leaves (First (leaves s)))

-- the tick, the test, and a jump back
abbrev pub loops_traced : (Tracing → Tracing) → (Tracing → Tracing) → (Tracing → Tracing) → Tracing → Tracing
loops_traced Tries Prepares Body s = place (Body (Prepares (leaves (Tries (place s)))))

abbrev pub clauses_in_turn : List (ℕ → Tracing → Tracing) → ℕ → Tracing → Tracing
clauses_in_turn fs own = in_turn (map (λ f. f own) fs)

abbrev pub nothing_traced : Tracing → Tracing
nothing_traced s = s

abbrev pub named_traced : List TypedWorker → Tracing → Tracing
named_traced [] s = s
named_traced (w ∷ ws) s = place s

abbrev pub end_traced : Bool → Tracing → Tracing
end_traced true s = leaves (gives nil_type s)
end_traced false s = place (place s)

module _ (known : Known) where
  -- ---- expressions

  abbrev pub expr_step : TypedExprOf (Tracing → Tracing) → Tracing → Tracing
  expr_step (layer.Strict form operands type at) s = form_traced known form (length operands.items) (sem_of type) (in_turn operands.items s)
  expr_step (layer.Implied value type at) s = gives (sem_of type) s
  expr_step (layer.Local slot narrowed type at) s = loads known slot narrowed (sem_of type) s
  expr_step (layer.And left right type at) s = forks right.value (gives (sem_of type)) (left.value s)
  expr_step (layer.Or left right type at) s = becomes (sem_of type) (forks (gives (sem_of type)) right.value (left.value s))
  expr_step (layer.Conditional condition middle last type at) s = becomes (sem_of type) (forks middle.value last.value (condition.value s))
  expr_step (layer.Elvis own left right type at) s = forks right.value (loads known own true (sem_of type)) (tested known own (left.value s))
  expr_step (layer.Check panics own operand type at) s =
      forks (λ k. takes 1 (sem_of type) (loads known own true error_type k)) (loads known own true (sem_of type)) (tested known own (operand.value s))
  expr_step (layer.Trap operand type at) s = becomes (sem_of type) (place (becomes error_type (place (place (operand.value (place s))))))
  expr_step (layer.Function function value type at) s =
      takes (length function.value.captured) (sem_of type) (captures_loaded known function.value.captured s)
  expr_step (layer.Parens inner type at) s = becomes (sem_of type) (inner.value s)

  abbrev pub expr_traced : TypedExpr → Tracing → Tracing
  expr_traced = of_typed_expr expr_step

  abbrev pub exprs_traced : List TypedExpr → Tracing → Tracing
  exprs_traced es = in_turn (map expr_traced es)

  -- an expression, and a command that takes what it gives
  abbrev pub taken : TypedExpr → Tracing → Tracing
  taken e s = leaves (expr_traced e s)

  -- ---- assignments with an operator

  -- this was read: the value, the operator and the store
  abbrev pub stored : Operator → TypedExpr → Tracing → Tracing
  stored op value s = leaves (operator_traced known op 2 (operator_type known.plain op) (expr_traced value s))

  abbrev pub update_traced : UpdateTarget → Operator → TypedExpr → Tracing → Tracing
  update_traced (target.Local slot narrowed type) op value s = stored op value (loads known slot narrowed (sem_of type) s)
  update_traced (target.Variable x) op value s = stored op value (gives (variable_known known x) s)
  update_traced (target.Member own how container key type) op value s =
      drops 2 (stored op value (member_read known how own (sem_of type) (taken key.value (taken container.value s))))

  -- ---- loops

  abbrev pub begin_traced : Source → Tracing → Tracing
  begin_traced (Range own Included from to) s =
      leaves (takes 2 known.plain.boolean (gives (slot_known known (own + 1)) (gives (slot_known known own) (taken to.value (taken from.value s)))))
  begin_traced (Range own Excluded from to) s = taken to.value (taken from.value s)
  begin_traced (ListSource own list) s = leaves (gives known.plain.int (taken list.value s))

  -- whether there is a further round
  abbrev pub tries_traced : Source → Tracing → Tracing
  tries_traced (Range own Included from to) s = gives (slot_known known (own + 2)) s
  tries_traced (Range own Excluded from to) s = takes 2 known.plain.boolean (gives (slot_known known (own + 1)) (gives (slot_known known own) s))
  tries_traced (ListSource own list) s =
      takes 2 known.plain.boolean (takes 1 known.plain.int (gives (slot_known known own) (gives (slot_known known (own + 1)) (raised known (own + 1) s))))

  -- the variable of a range gets its value, and whether there is a further round is found out and tested
  abbrev pub next_traced : ℕ → Tracing → Tracing
  next_traced own s =
      leaves (gives (slot_known known (own + 2)) (leaves (takes 2 known.plain.boolean
      (gives (slot_known known (own + 1)) (gives (slot_known known own) (leaves (gives (slot_known known own) s)))))))

  -- the variable gets its value
  abbrev pub prepare_traced : ℕ → Source → Tracing → Tracing
  prepare_traced slot (Range own Included from to) s = place (raised known own (next_traced own s))
  prepare_traced slot (Range own Excluded from to) s = raised known own (leaves (gives (slot_known known own) s))
  prepare_traced slot (ListSource own list) s =
      leaves (takes 2 (slot_known known slot) (gives (slot_known known (own + 1)) (gives (slot_known known own) s)))

  -- ---- statements

  abbrev pub pattern_traced : ℕ → Option Constant → Tracing → Tracing
  pattern_traced own (Some c) s = place (leaves (takes 1 known.plain.boolean (gives (slot_known known own) s)))
  pattern_traced own None s = place s

  abbrev pub patterns_traced : ℕ → List TypedPattern → Tracing → Tracing
  patterns_traced own ts = in_turn (map (λ t. pattern_traced own t.value) ts)

  abbrev pub return_traced : Option (Box TypedExpr) → Tracing → Tracing
  return_traced None s = leaves (gives nil_type s)
  return_traced (Some e) s = taken e.value s

  abbrev pub stmt_step : TypedStmt-F (Tracing → Tracing) (ℕ → Tracing → Tracing) → Tracing → Tracing
  stmt_step (stmt_layer.Set slot value at) s = taken value.value s
  stmt_step (stmt_layer.Perform form operands at) s = drops (length operands.items) (place (exprs_traced operands.items s))
  stmt_step (stmt_layer.Update t op value at) s = update_traced t op value.value s
  stmt_step (stmt_layer.If condition first second at) s = in_turn second.items (place (in_turn first.items (taken condition.value s)))
  stmt_step (stmt_layer.While condition body at) s = loops_traced (expr_traced condition.value) nothing_traced (in_turn body.items) s
  stmt_step (stmt_layer.Foreach slot source body at) s =
      loops_traced (tries_traced source) (prepare_traced slot source) (in_turn body.items) (begin_traced source s)
  stmt_step (stmt_layer.Match own subject clauses at) s = clauses_in_turn clauses.items own (taken subject.value s)
  stmt_step (stmt_layer.Return value at) s = return_traced value s
  stmt_step (stmt_layer.Block stmts at) s = in_turn stmts.items s
  stmt_step (stmt_layer.Break at) s = place s
  stmt_step (stmt_layer.Continue at) s = place s

  -- by the slot of the subject
  abbrev pub clause_step : TypedClause-F (Tracing → Tracing) (ℕ → Tracing → Tracing) → ℕ → Tracing → Tracing
  clause_step c own s = place (in_turn c.stmts.items (place (patterns_traced own c.patterns.items s)))

  abbrev pub stmt_traced : TypedStmt → Tracing → Tracing
  stmt_traced = fold-TypedStmt (Tracing → Tracing) (ℕ → Tracing → Tracing) stmt_step clause_step

  abbrev pub clause_traced : TypedClause → ℕ → Tracing → Tracing
  clause_traced = fold-TypedClause (Tracing → Tracing) (ℕ → Tracing → Tracing) stmt_step clause_step

  abbrev pub stmts_traced : List TypedStmt → Tracing → Tracing
  stmts_traced ss = in_turn (map stmt_traced ss)

  -- ---- units

  abbrev pub initial_traced : Initial → Tracing → Tracing
  initial_traced i s = taken i.value.value s

  abbrev pub initials_traced : List Initial → Tracing → Tracing
  initials_traced is = in_turn (map initial_traced is)

  abbrev pub body_traced : UnitBody → Tracing → Tracing
  body_traced (OfFunction (BlockBody initial workers rest ends close)) s =
      end_traced ends (stmts_traced rest.items (named_traced workers.items (stmts_traced initial.items s)))
  body_traced (OfFunction (ValueBody value)) s = taken value.value s
  body_traced (OfWorker stmts ends) s = end_traced ends (stmts_traced stmts s)
  body_traced (OfAnonymous value) s = taken value s
  body_traced (OfInitialiser values) s = end_traced true (initials_traced values s)

  abbrev pub unit_traced : UnitBody → Tracing → Tracing
  unit_traced body s = body_traced body (place s)
