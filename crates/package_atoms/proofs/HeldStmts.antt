-- Statements and what holds them, of which each part that isolation looks at has types that name atoms that are there.
use Rattle.std.proofs.Common.{◌≡◌, ◌∙◌, ℕ, Bool, List, [], ◌∷◌, map, All, Some, None, sym, subst, ap}
use Rattle.std.proofs.lemmas.List.Elements.{All-head, All-tail}
use Rattle.std.specs.Global.{Vec}
use Rattle.bal_base.specs.declared.place.Place.{Place}
use Rattle.type_model.specs.declared.answers.TypeLimit.{TypeLimit}
use Rattle.type_model.specs.declared.atoms.AtomDef.{AtomDef}
use Rattle.type_model.specs.Calls.{Asked}
use Rattle.typed_tree.specs.declared.expr.TypedExpr.{TypedExpr}
use Rattle.typed_tree.specs.declared.form.Operator.{Operator}
use Rattle.typed_tree.specs.declared.form.Read.{Read}
use Rattle.typed_tree.specs.declared.package.Initial.{Initial}
use Rattle.typed_tree.specs.declared.package.Initialiser.{Initialiser}
use Rattle.typed_tree.specs.declared.stmt.PerformForm.{PerformForm}
use Rattle.typed_tree.specs.declared.stmt.PerformForm.TheVariants as perform
use Rattle.typed_tree.specs.declared.stmt.RangeEnd.{RangeEnd}
use Rattle.typed_tree.specs.declared.stmt.Source.{Source}
use Rattle.typed_tree.specs.declared.stmt.TypedClause.{TypedClause, fold_out-TypedClause, out-TypedClause}
use Rattle.typed_tree.specs.declared.stmt.TypedPattern.{TypedPattern}
use Rattle.typed_tree.specs.declared.stmt.TypedStmt.{TypedStmt, TypedStmt-F, fold_out-TypedStmt, map-TypedStmt, out-TypedStmt}
use Rattle.typed_tree.specs.declared.stmt.TypedStmt.TheOpen as layer
use Rattle.typed_tree.specs.declared.stmt.UpdateTarget.{UpdateTarget}
use Rattle.typed_tree.specs.declared.stmt.UpdateTarget.TheVariants as target
use Rattle.typed_tree.specs.declared.unit.TypedBody.{TypedBody}
use Rattle.typed_tree.specs.declared.unit.TypedFunction.{TypedFunction}
use Rattle.typed_tree.specs.declared.unit.TypedWorker.{TypedWorker}
use Rattle.typed_tree.specs.Listed.{Listed, joined}
use Rattle.typed_tree.specs.SharedTypes.{Shared}
use Rattle.typed_tree.specs.StmtLayers.{of_typed_clause, of_typed_stmt}
use Rattle.isolation_check.specs.Parts.{Noted, body_parts, clause_step, initial_parts, noting, perform_parts, source_parts, stmt_step, target_parts, worker_parts}
use Rattle.check_words.specs.StmtViews.{IsBlock, IsBreak, IsClause, IsContinue, IsForeach, IsIf, IsListSource, IsMatch, IsMemberTarget, IsPerform, IsRangeSource, IsReturn, IsReturnNil, IsSet, IsUpdate, IsWhile}
use Rattle.check_words.specs.Units.{IsBlockBody, IsInitial, IsValueBody}
use Rattle.isolation_check.proofs.Held.{ClauseHeld, ExprHeld, FunctionHeld, InitialHeld, InitialiserHeld, NotedBelow, StmtHeld, WorkerHeld, initial-held as initial-value-held, of-body-held, operands-held}

abbrev A : Type 0
A = Listed Noted

module _ (n : ℕ) where
  -- ---- several

  stmts-held : (ss : List TypedStmt) → All (StmtHeld n) ss → NotedBelow n (joined (map (of_typed_stmt noting) ss))
  unfolding StmtHeld
  stmts-held [] h = tt
  stmts-held (s ∷ ss) h = (All-head (StmtHeld n) s ss h, stmts-held ss (All-tail (StmtHeld n) s ss h))

  clauses-held : (cs : List TypedClause) → All (ClauseHeld n) cs → NotedBelow n (joined (map (of_typed_clause noting) cs))
  unfolding ClauseHeld
  clauses-held [] h = tt
  clauses-held (c ∷ cs) h = (All-head (ClauseHeld n) c cs h, clauses-held cs (All-tail (ClauseHeld n) c cs h))

  workers-held : (ws : List TypedWorker) → All (WorkerHeld n) ws → NotedBelow n (joined (map worker_parts ws))
  unfolding WorkerHeld
  workers-held [] h = tt
  workers-held (w ∷ ws) h = (All-head (WorkerHeld n) w ws h, workers-held ws (All-tail (WorkerHeld n) w ws h))

  initials-held : (xs : List Initial) → All (InitialHeld n) xs → NotedBelow n (joined (map initial_parts xs))
  unfolding InitialHeld
  initials-held [] h = tt
  initials-held (x ∷ xs) h = (All-head (InitialHeld n) x xs h, initials-held xs (All-tail (InitialHeld n) x xs h))

  -- those that a vector has
  stmts-in : (v : Vec TypedStmt) (ss : List TypedStmt) → v.items ≡ ss → All (StmtHeld n) ss → NotedBelow n (joined (map (of_typed_stmt noting) v.items))
  stmts-in v ss is h = stmts-held v.items (subst (All (StmtHeld n)) (sym is) h)

  -- ---- statements, by their outermost layer

  by-layer : (s : TypedStmt) (x : TypedStmt-F TypedStmt TypedClause) → out-TypedStmt s ≡ x
      → NotedBelow n (stmt_step (map-TypedStmt TypedStmt TypedClause A A (of_typed_stmt noting) (of_typed_clause noting) x)) → StmtHeld n s
  unfolding StmtHeld
  by-layer s x o h =
      subst (NotedBelow n) (sym (fold_out-TypedStmt A A stmt_step clause_step s
      ∙ ap (λ y. stmt_step (map-TypedStmt TypedStmt TypedClause A A (of_typed_stmt noting) (of_typed_clause noting) y)) o)) h

  pub set-held : (slot : ℕ) (value : TypedExpr) (at : Place) (s : TypedStmt) → IsSet slot value at s → ExprHeld n value → StmtHeld n s
  set-held slot value at s (v, o, is) h = by-layer s (layer.Set slot v at) o (of-body-held n v value is h)

  performed-held : (form : PerformForm) (at : Place) → NotedBelow n (perform_parts form at)
  performed-held (perform.SetVariable m) at = tt
  performed-held perform.SetItem at = tt
  performed-held perform.SetKey at = tt
  performed-held perform.Ignore at = tt
  performed-held perform.Evaluate at = tt
  performed-held perform.Panic at = tt

  pub perform-held : (form : PerformForm) (es : List TypedExpr) (at : Place) (s : TypedStmt) → IsPerform form es at s → All (ExprHeld n) es → StmtHeld n s
  perform-held form es at s (v, o, is) h =
      by-layer s (layer.Perform form v at) o (performed-held form at, operands-held n v.items (subst (All (ExprHeld n)) (sym is) h))

  -- what is assigned to
  unfoldable pub TargetHeld : UpdateTarget → Type 0
  TargetHeld what = (at : Place) → NotedBelow n (target_parts what at)

  pub local-target : (slot : ℕ) (narrowed : Bool) (t : Shared) (what : UpdateTarget) → what ≡ target.Local slot narrowed t → TargetHeld what
  unfolding TargetHeld
  local-target slot narrowed t what is at = subst (λ w. NotedBelow n (target_parts w at)) (sym is) tt

  pub variable-target : (m : ℕ) (what : UpdateTarget) → what ≡ target.Variable m → TargetHeld what
  unfolding TargetHeld
  variable-target m what is at = subst (λ w. NotedBelow n (target_parts w at)) (sym is) tt

  pub member-target : (own : ℕ) (how : Read) (container key : TypedExpr) (t : Shared) (what : UpdateTarget) → IsMemberTarget own how container key t what
      → ExprHeld n container → ExprHeld n key → TargetHeld what
  unfolding TargetHeld
  member-target own how container key t what (c, k, is, first, next) h g at =
      subst (λ w. NotedBelow n (target_parts w at)) (sym is) (of-body-held n c container first h, of-body-held n k key next g)

  pub update-held : (what : UpdateTarget) (op : Operator) (value : TypedExpr) (at : Place) (s : TypedStmt) → IsUpdate what op value at s
      → TargetHeld what → ExprHeld n value → StmtHeld n s
  unfolding TargetHeld
  update-held what op value at s (v, o, is) g h = by-layer s (layer.Update what op v at) o (g at, of-body-held n v value is h)

  pub if-held : (condition : TypedExpr) (first second : List TypedStmt) (at : Place) (s : TypedStmt) → IsIf condition first second at s
      → ExprHeld n condition → All (StmtHeld n) first → All (StmtHeld n) second → StmtHeld n s
  if-held condition first second at s (c, v, w, o, is, one, other) h g k =
      by-layer s (layer.If c v w at) o (of-body-held n c condition is h, (stmts-in v first one g, stmts-in w second other k))

  pub while-held : (condition : TypedExpr) (stmts : List TypedStmt) (at : Place) (s : TypedStmt) → IsWhile condition stmts at s
      → ExprHeld n condition → All (StmtHeld n) stmts → StmtHeld n s
  while-held condition stmts at s (c, v, o, is, same) h g = by-layer s (layer.While c v at) o (of-body-held n c condition is h, stmts-in v stmts same g)

  -- what a loop goes through
  unfoldable pub SourceHeld : Source → Type 0
  SourceHeld over = NotedBelow n (source_parts over)

  pub range-source : (own : ℕ) (end : RangeEnd) (from to : TypedExpr) (over : Source) → IsRangeSource own end from to over
      → ExprHeld n from → ExprHeld n to → SourceHeld over
  unfolding SourceHeld
  range-source own end from to over (f, t, is, first, last) h g =
      subst (λ x. NotedBelow n (source_parts x)) (sym is) (of-body-held n f from first h, of-body-held n t to last g)

  pub list-source : (own : ℕ) (list : TypedExpr) (over : Source) → IsListSource own list over → ExprHeld n list → SourceHeld over
  unfolding SourceHeld
  list-source own list over (l, is, same) h = subst (λ x. NotedBelow n (source_parts x)) (sym is) (of-body-held n l list same h)

  pub foreach-held : (slot : ℕ) (over : Source) (stmts : List TypedStmt) (at : Place) (s : TypedStmt) → IsForeach slot over stmts at s
      → SourceHeld over → All (StmtHeld n) stmts → StmtHeld n s
  unfolding SourceHeld
  foreach-held slot over stmts at s (v, o, same) h g = by-layer s (layer.Foreach slot over v at) o (h, stmts-in v stmts same g)

  pub match-held : (own : ℕ) (subject : TypedExpr) (clauses : List TypedClause) (at : Place) (s : TypedStmt) → IsMatch own subject clauses at s
      → ExprHeld n subject → All (ClauseHeld n) clauses → StmtHeld n s
  match-held own subject clauses at s (e, v, o, is, same) h g =
      by-layer s (layer.Match own e v at) o (of-body-held n e subject is h, clauses-held v.items (subst (All (ClauseHeld n)) (sym same) g))

  pub return-held : (value : TypedExpr) (at : Place) (s : TypedStmt) → IsReturn value at s → ExprHeld n value → StmtHeld n s
  return-held value at s (v, o, is) h = by-layer s (layer.Return (Some v) at) o (of-body-held n v value is h)

  pub return-nil-held : (at : Place) (s : TypedStmt) → IsReturnNil at s → StmtHeld n s
  return-nil-held at s o = by-layer s (layer.Return None at) o tt

  pub block-held : (stmts : List TypedStmt) (at : Place) (s : TypedStmt) → IsBlock stmts at s → All (StmtHeld n) stmts → StmtHeld n s
  block-held stmts at s (v, o, same) g = by-layer s (layer.Block v at) o (stmts-in v stmts same g)

  pub break-held : (at : Place) (s : TypedStmt) → IsBreak at s → StmtHeld n s
  break-held at s o = by-layer s (layer.Break at) o tt

  pub continue-held : (at : Place) (s : TypedStmt) → IsContinue at s → StmtHeld n s
  continue-held at s o = by-layer s (layer.Continue at) o tt

  pub clause-held : (patterns : List TypedPattern) (stmts : List TypedStmt) (at : Place) (c : TypedClause) → IsClause patterns stmts at c
      → All (StmtHeld n) stmts → ClauseHeld n c
  unfolding ClauseHeld
  clause-held patterns stmts at c (p, same, place) g =
      subst (NotedBelow n) (sym (fold_out-TypedClause A A stmt_step clause_step c)) (stmts-held (out-TypedClause c).stmts.items (subst (All (StmtHeld n)) (sym same) g))

  -- ---- workers, functions and initial values

  pub worker-held : (w : TypedWorker) (stmts : List TypedStmt) → w.stmts.items ≡ stmts → All (StmtHeld n) stmts → WorkerHeld n w
  unfolding WorkerHeld
  worker-held w stmts same h = stmts-held w.stmts.items (subst (All (StmtHeld n)) (sym same) h)

  unfoldable pub BodyHeld : TypedBody → Type 0
  BodyHeld b = NotedBelow n (body_parts b)

  pub block-body : (passes : List AtomDef → Asked → TypeLimit → Type 0) (workers : List TypedWorker) (ends : Bool) (close : Place) (initial rest : List TypedStmt) (b : TypedBody)
      → IsBlockBody passes workers ends close initial rest b → All (StmtHeld n) initial → All (WorkerHeld n) workers → All (StmtHeld n) rest → BodyHeld b
  unfolding BodyHeld
  block-body passes workers ends close initial rest b (i, r, w, is, first, middle, last) h g k =
      subst (λ x. NotedBelow n (body_parts x)) (sym is)
      (stmts-in i initial first h, (workers-held w.items (subst (All (WorkerHeld n)) (sym middle) g), stmts-in r rest last k))

  pub value-body : (value : TypedExpr) (b : TypedBody) → IsValueBody value b → ExprHeld n value → BodyHeld b
  unfolding BodyHeld
  value-body value b (v, is, same) h = subst (λ x. NotedBelow n (body_parts x)) (sym is) (of-body-held n v value same h)

  pub whole-held : (f : TypedFunction) → BodyHeld f.body → FunctionHeld n f
  unfolding BodyHeld FunctionHeld
  whole-held f h = h

  pub initial-held : (number : ℕ) (value : TypedExpr) (at : Place) (i : Initial) → IsInitial number value at i → ExprHeld n value → InitialHeld n i
  initial-held number value at i (same, is, place) h = initial-value-held n i value is h

  pub initialiser-held : (i : Initialiser) (values : List Initial) → i.values.items ≡ values → All (InitialHeld n) values → InitialiserHeld n i
  unfolding InitialiserHeld
  initialiser-held i values same h = initials-held i.values.items (subst (All (InitialHeld n)) (sym same) h)
