-- The units in expressions and statements are anonymous functions, which have no workers: where they are placed, and as they are listed.
use Rattle.std.proofs.Common.{◌≡◌, ◌∙◌, List, [], ◌∷◌, Option, Some, None, map, refl, sym, subst, ap}
use Rattle.std.specs.Prelude.{⊤}
use Rattle.std.specs.Global.{Box, Global}
use Rattle.std.specs.formers.vec.Vec
use Rattle.typed_tree.specs.declared.expr.TypedExpr.{TypedExpr, Strict', Implied, Local as Variable, And', Or', Conditional', Elvis', Check', Trap', Function', Parens', out-TypedExpr, Row_of-TypedExpr, end_of-TypedExpr, more_of-TypedExpr, items-the_row-TypedExpr as exprs_in, items_shown-the_row-TypedExpr-0 as exprs-shown}
use Rattle.typed_tree.specs.declared.stmt.Source.{Source}
use Rattle.typed_tree.specs.declared.stmt.Source.TheVariants.{Range, List as ListSource}
use Rattle.typed_tree.specs.declared.stmt.TypedStmt.{TypedStmt, Set, Perform, Update, If', While', Foreach', Match', Return, Block' as BlockStmt, Break, Continue, out-TypedStmt, fold_out-TypedStmt, Row_of-TypedStmt, end_of-TypedStmt, more_of-TypedStmt, items-the_row-TypedStmt as stmts_in, items_shown-the_row-TypedStmt-0 as stmts-shown, Row_of-TypedClause, end_of-TypedClause, more_of-TypedClause, items-the_row-TypedClause as clauses_in, items_shown-the_row-TypedClause-1 as clauses-shown}
use Rattle.typed_tree.specs.declared.stmt.TypedStmt.TheOpen as layer
use Rattle.typed_tree.specs.declared.stmt.TypedClause.{TypedClause, fold_out-TypedClause}
use Rattle.typed_tree.specs.declared.stmt.TypedStmt.TheBlock.{shown-the_row-TypedStmt-0}
use Rattle.typed_tree.specs.declared.stmt.UpdateTarget.{UpdateTarget}
use Rattle.typed_tree.specs.declared.stmt.UpdateTarget.TheVariants as target
use denote.Hole.Carrier
use mathlib.Core.Former
use Rattle.typed_tree.specs.Listed.{Listed, nothing, one, ◌&◌, if_boxed, joined}
use Rattle.typed_tree.specs.StmtLayers.{TypedClauseOf, TypedStmtOf, TypedStmtSteps, of_typed_clause, of_typed_stmt}
use Rattle.typed_tree.specs.Units.{OfAnonymous, OfFunction, OfInitialiser, OfWorker, UnitBody, UnitTree, expr_units, listing, source_units, stmts_units, target_units}
use Rattle.typed_tree.proofs.SeenParts.{para_out, seconds}
use Rattle.tree_promises.specs.Placed.{Placed, expr_placed, source_placed, stmts_placed, target_placed}

abbrev pub IsAnonymous : UnitBody → Type 0
IsAnonymous (OfFunction body) = ⊥
IsAnonymous (OfWorker stmts ends) = ⊥
IsAnonymous (OfAnonymous value) = ⊤
IsAnonymous (OfInitialiser values) = ⊥

-- both list the same anonymous functions, which have no workers
abbrev pub Alone : Listed Placed → Listed UnitTree → Type 0
Alone nothing nothing = ⊤
Alone nothing (one t) = ⊥
Alone nothing (u & v) = ⊥
Alone (one p) nothing = ⊥
Alone (one p) (one t) = (p.tree ≡ t) × (p.crew ≡ []) × IsAnonymous t.body
Alone (one p) (u & v) = ⊥
Alone (p & q) nothing = ⊥
Alone (p & q) (one t) = ⊥
Alone (p & q) (u & v) = Alone p u × Alone q v

alone-so : {p q : Listed Placed} {u v : Listed UnitTree} → p ≡ q → u ≡ v → Alone q v → Alone p u
alone-so {q = q} {u = u} e f h = subst (λ x. Alone x u) (sym e) (subst (Alone q) (sym f) h)

-- ---- expressions

mutual
  unfolding out-TypedExpr Carrier.out

  pub expr-alone : (e : TypedExpr) → Alone (expr_placed e) (expr_units e)
  expr-alone (Implied value type at) = alone-so (para_out _ _ (Implied value type at)) (para_out _ _ (Implied value type at)) tt
  expr-alone (Variable slot narrowed type at) = alone-so (para_out _ _ (Variable slot narrowed type at)) (para_out _ _ (Variable slot narrowed type at)) tt
  expr-alone (And' s left t right type at) =
      alone-so (para_out _ _ (And' s left t right type at)) (para_out _ _ (And' s left t right type at)) (expr-alone left, expr-alone right)
  expr-alone (Or' s left t right type at) =
      alone-so (para_out _ _ (Or' s left t right type at)) (para_out _ _ (Or' s left t right type at)) (expr-alone left, expr-alone right)
  expr-alone (Conditional' s condition t middle u last type at) =
      alone-so (para_out _ _ (Conditional' s condition t middle u last type at)) (para_out _ _ (Conditional' s condition t middle u last type at)) (expr-alone condition, (expr-alone middle, expr-alone last))
  expr-alone (Elvis' own s left t right type at) =
      alone-so (para_out _ _ (Elvis' own s left t right type at)) (para_out _ _ (Elvis' own s left t right type at)) (expr-alone left, expr-alone right)
  expr-alone (Check' panics own s operand type at) =
      alone-so (para_out _ _ (Check' panics own s operand type at)) (para_out _ _ (Check' panics own s operand type at)) (expr-alone operand)
  expr-alone (Trap' s operand type at) = alone-so (para_out _ _ (Trap' s operand type at)) (para_out _ _ (Trap' s operand type at)) (expr-alone operand)
  expr-alone (Function' function s value type at) =
      alone-so (para_out _ _ (Function' function s value type at)) (para_out _ _ (Function' function s value type at)) ((refl, refl, tt), expr-alone value)
  expr-alone (Parens' s inner type at) = alone-so (para_out _ _ (Parens' s inner type at)) (para_out _ _ (Parens' s inner type at)) (expr-alone inner)
  expr-alone (Strict' form shape operands type at) =
      alone-so
      (para_out _ _ (Strict' form shape operands type at) ∙ ap joined (seconds expr_placed _) ∙ ap (λ es. joined (map expr_placed es)) (exprs-shown shape operands))
      (para_out _ _ (Strict' form shape operands type at) ∙ ap joined (seconds expr_units _) ∙ ap (λ es. joined (map expr_units es)) (exprs-shown shape operands))
      (row-alone operands)

  row-alone : {n : _} (row : Row_of-TypedExpr n) → Alone (joined (map expr_placed (exprs_in _ row))) (joined (map expr_units (exprs_in _ row)))
  row-alone end_of-TypedExpr = tt
  row-alone (more_of-TypedExpr e rest) = (expr-alone e, row-alone rest)

exprs-alone : (es : List TypedExpr) → Alone (joined (map expr_placed es)) (joined (map expr_units es))
exprs-alone [] = tt
exprs-alone (e ∷ es) = (expr-alone e, exprs-alone es)

-- ---- statements

target-alone : (t : UpdateTarget) → Alone (target_placed t) (target_units t)
target-alone (target.Local slot narrowed type) = tt
target-alone (target.Variable x) = tt
target-alone (target.Member own how container key type) = (expr-alone container.value, expr-alone key.value)

source-alone : (source : Source) → Alone (source_placed source) (source_units source)
source-alone (Range own end from to) = (expr-alone from.value, expr-alone to.value)
source-alone (ListSource own list) = expr-alone list.value

boxed-alone : (value : Option (Box TypedExpr)) → Alone (if_boxed expr_placed value) (if_boxed expr_units value)
boxed-alone None = tt
boxed-alone (Some e) = expr-alone e.value

-- the steps of `stmts_placed`, by name
abbrev placed_stmt_step : TypedStmtOf (Listed Placed) → Listed Placed
placed_stmt_step (layer.Set slot value at) = expr_placed value.value
placed_stmt_step (layer.Perform form operands at) = joined (map expr_placed operands.items)
placed_stmt_step (layer.Update t op value at) = target_placed t & expr_placed value.value
placed_stmt_step (layer.If condition first second at) = expr_placed condition.value & joined first.items & joined second.items
placed_stmt_step (layer.While condition body at) = expr_placed condition.value & joined body.items
placed_stmt_step (layer.Foreach slot source body at) = source_placed source & joined body.items
placed_stmt_step (layer.Match own subject clauses at) = expr_placed subject.value & joined clauses.items
placed_stmt_step (layer.Return value at) = if_boxed expr_placed value
placed_stmt_step (layer.Block stmts at) = joined stmts.items
placed_stmt_step (layer.Break at) = nothing
placed_stmt_step (layer.Continue at) = nothing

abbrev placed_clause_step : TypedClauseOf (Listed Placed) → Listed Placed
placed_clause_step c = joined c.stmts.items

abbrev placing : TypedStmtSteps (Listed Placed)
placing = record { stmt = placed_stmt_step; clause = placed_clause_step }

abbrev stmt_placed : TypedStmt → Listed Placed
stmt_placed = of_typed_stmt placing

abbrev clause_placed : TypedClause → Listed Placed
clause_placed = of_typed_clause placing

abbrev stmt_units : TypedStmt → Listed UnitTree
stmt_units = of_typed_stmt listing

abbrev clause_units : TypedClause → Listed UnitTree
clause_units = of_typed_clause listing

abbrev shown : (shape : (Vec.the_former (Former.this {0}) Global).Shape) → Row_of-TypedStmt (Former.arity (Vec.the_former (Former.this {0}) Global) shape) → List TypedStmt
shown shape row = (shown-the_row-TypedStmt-0 shape row).items

abbrev BlockAlone : List TypedStmt → Type 0
BlockAlone ss = Alone (joined (map stmt_placed ss)) (joined (map stmt_units ss))

shown-alone : (shape : _) (row : _) → BlockAlone (stmts_in _ row) → BlockAlone (shown shape row)
shown-alone shape row h = subst BlockAlone (sym (stmts-shown shape row)) h

abbrev ClausesAlone : List TypedClause → Type 0
ClausesAlone cs = Alone (joined (map clause_placed cs)) (joined (map clause_units cs))

-- by what the layer lists
by-layer : (s : TypedStmt) {p : Listed Placed} {u : Listed UnitTree} → stmt_placed s ≡ p → stmt_units s ≡ u → Alone p u → Alone (stmt_placed s) (stmt_units s)
by-layer s e f h = alone-so e f h

mutual
  unfolding out-TypedStmt Carrier.out

  stmt-alone : (s : TypedStmt) → Alone (stmt_placed s) (stmt_units s)
  stmt-alone (Set slot value at) =
      by-layer (Set slot value at) (fold_out-TypedStmt (Listed Placed) (Listed Placed) placed_stmt_step placed_clause_step (Set slot value at)) (fold_out-TypedStmt (Listed UnitTree) (Listed UnitTree) listing.stmt listing.clause (Set slot value at))
      (expr-alone value.value)
  stmt-alone (Perform form operands at) =
      by-layer (Perform form operands at) (fold_out-TypedStmt (Listed Placed) (Listed Placed) placed_stmt_step placed_clause_step (Perform form operands at)) (fold_out-TypedStmt (Listed UnitTree) (Listed UnitTree) listing.stmt listing.clause (Perform form operands at))
      (exprs-alone operands.items)
  stmt-alone (Update t op value at) =
      by-layer (Update t op value at) (fold_out-TypedStmt (Listed Placed) (Listed Placed) placed_stmt_step placed_clause_step (Update t op value at)) (fold_out-TypedStmt (Listed UnitTree) (Listed UnitTree) listing.stmt listing.clause (Update t op value at))
      (target-alone t, expr-alone value.value)
  stmt-alone (If' condition shape first shape' second at) =
      by-layer (If' condition shape first shape' second at) (fold_out-TypedStmt (Listed Placed) (Listed Placed) placed_stmt_step placed_clause_step (If' condition shape first shape' second at)) (fold_out-TypedStmt (Listed UnitTree) (Listed UnitTree) listing.stmt listing.clause (If' condition shape first shape' second at))
      (expr-alone condition.value, (shown-alone shape first (stmts-alone first), shown-alone shape' second (stmts-alone second)))
  stmt-alone (While' condition shape body at) =
      by-layer (While' condition shape body at) (fold_out-TypedStmt (Listed Placed) (Listed Placed) placed_stmt_step placed_clause_step (While' condition shape body at)) (fold_out-TypedStmt (Listed UnitTree) (Listed UnitTree) listing.stmt listing.clause (While' condition shape body at))
      (expr-alone condition.value, shown-alone shape body (stmts-alone body))
  stmt-alone (Foreach' slot source shape body at) =
      by-layer (Foreach' slot source shape body at) (fold_out-TypedStmt (Listed Placed) (Listed Placed) placed_stmt_step placed_clause_step (Foreach' slot source shape body at)) (fold_out-TypedStmt (Listed UnitTree) (Listed UnitTree) listing.stmt listing.clause (Foreach' slot source shape body at))
      (source-alone source, shown-alone shape body (stmts-alone body))
  stmt-alone (Return value at) =
      by-layer (Return value at) (fold_out-TypedStmt (Listed Placed) (Listed Placed) placed_stmt_step placed_clause_step (Return value at)) (fold_out-TypedStmt (Listed UnitTree) (Listed UnitTree) listing.stmt listing.clause (Return value at))
      (boxed-alone value)
  stmt-alone (BlockStmt shape stmts at) =
      by-layer (BlockStmt shape stmts at) (fold_out-TypedStmt (Listed Placed) (Listed Placed) placed_stmt_step placed_clause_step (BlockStmt shape stmts at)) (fold_out-TypedStmt (Listed UnitTree) (Listed UnitTree) listing.stmt listing.clause (BlockStmt shape stmts at))
      (shown-alone shape stmts (stmts-alone stmts))
  stmt-alone (Break at) =
      by-layer (Break at) (fold_out-TypedStmt (Listed Placed) (Listed Placed) placed_stmt_step placed_clause_step (Break at)) (fold_out-TypedStmt (Listed UnitTree) (Listed UnitTree) listing.stmt listing.clause (Break at))
      tt
  stmt-alone (Continue at) =
      by-layer (Continue at) (fold_out-TypedStmt (Listed Placed) (Listed Placed) placed_stmt_step placed_clause_step (Continue at)) (fold_out-TypedStmt (Listed UnitTree) (Listed UnitTree) listing.stmt listing.clause (Continue at))
      tt
  stmt-alone (Match' own subject shape clauses at) =
      by-layer (Match' own subject shape clauses at) (fold_out-TypedStmt (Listed Placed) (Listed Placed) placed_stmt_step placed_clause_step (Match' own subject shape clauses at)) (fold_out-TypedStmt (Listed UnitTree) (Listed UnitTree) listing.stmt listing.clause (Match' own subject shape clauses at))
      (expr-alone subject.value, subst ClausesAlone (sym (clauses-shown shape clauses)) (clauses-alone clauses))

  stmts-alone : {n : _} (row : Row_of-TypedStmt n) → BlockAlone (stmts_in _ row)
  stmts-alone end_of-TypedStmt = tt
  stmts-alone (more_of-TypedStmt s rest) = (stmt-alone s, stmts-alone rest)

  clauses-alone : {n : _} (row : Row_of-TypedClause n) → ClausesAlone (clauses_in _ row)
  clauses-alone end_of-TypedClause = tt
  clauses-alone (more_of-TypedClause patterns shape stmts at rest) =
      let c : TypedClause = record { patterns = patterns; stmts = shown-the_row-TypedStmt-0 shape stmts; at = at } in
      (alone-so (fold_out-TypedClause (Listed Placed) (Listed Placed) placed_stmt_step placed_clause_step c) (fold_out-TypedClause (Listed UnitTree) (Listed UnitTree) listing.stmt listing.clause c) (shown-alone shape stmts (stmts-alone stmts)), clauses-alone rest)

pub block-alone : (ss : List TypedStmt) → Alone (stmts_placed ss) (stmts_units ss)
block-alone [] = tt
block-alone (s ∷ ss) = (stmt-alone s, block-alone ss)
