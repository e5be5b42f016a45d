-- A way by the layer of a tree is a way through the tree.
use Rattle.std.proofs.Common.{ℕ, List, [], Option, Some, None, subst}
use Rattle.std.specs.Prelude.{length}
use Rattle.std.specs.Global.{Global}
use Rattle.std.specs.formers.vec.Vec
use denote.Hole.Carrier
use mathlib.Core.Former
use Rattle.typed_tree.specs.declared.expr.TypedExpr.{TypedExpr, out-TypedExpr, Strict', Implied, Local as Variable, And', Or', Conditional', Elvis', Check', Trap', Function', Parens', Row_of-TypedExpr, end_of-TypedExpr, more_of-TypedExpr, items-the_row-TypedExpr as exprs_in, items_shown-the_row-TypedExpr-0 as exprs-shown}
use Rattle.typed_tree.specs.declared.stmt.TypedStmt.{TypedStmt, out-TypedStmt, Set, Perform, Update, If', While', Foreach', Match', Return, Block' as BlockStmt, Break, Continue, Row_of-TypedStmt, end_of-TypedStmt, more_of-TypedStmt, items-the_row-TypedStmt as stmts_in, items_shown-the_row-TypedStmt-0 as stmts-shown, Row_of-TypedClause, end_of-TypedClause, more_of-TypedClause, items-the_row-TypedClause as clauses_in, items_shown-the_row-TypedClause-1 as clauses-shown}
use Rattle.typed_tree.specs.declared.stmt.TypedStmt.TheBlock.{shown-the_row-TypedStmt-0}
use Rattle.held_operations.specs.Constructs.{operations_of}
use Rattle.eval_model.specs.Tasks.{Loop, AsLongAs}
use Rattle.eval_model.specs.Walk.{BlockOver, ClausesOver, ExprOver, ExprsOver, LoopOver, OpsOver, RowOver, StmtOver, StmtsOver, loop_of}
use Rattle.eval_model.specs.Ways.{Turns, Ways}
use Rattle.tree_promises.specs.Layers.{ClausesLayerOver, ExprLayerOver, StmtLayerOver}

module _ {Pt : Type 0} (w : Ways Pt) where
  abbrev Loops : Type 0
  Loops = Option (Turns Pt)

  -- ---- lists as rows

  exprs-row : {n : _} (row : Row_of-TypedExpr n) (p q : Pt) → ExprsOver w (exprs_in _ row) p q → RowOver w row p q
  exprs-row end_of-TypedExpr p q e = e
  exprs-row (more_of-TypedExpr e rest) p q (m, at, more) = (m, at, exprs-row rest m q more)

  block-row : {n : _} (row : Row_of-TypedStmt n) (loop : Loops) (p q : Pt) → BlockOver w (stmts_in _ row) loop p q → StmtsOver w row loop p q
  block-row end_of-TypedStmt loop p q e = e
  block-row (more_of-TypedStmt s rest) loop p q (m, at, more) = (m, at, block-row rest loop m q more)

  abbrev shown : (shape : (Vec.the_former (Former.this {0}) Global).Shape) → Row_of-TypedStmt (Former.arity (Vec.the_former (Former.this {0}) Global) shape) → List TypedStmt
  shown shape row = (shown-the_row-TypedStmt-0 shape row).items

  block-shown : (shape : _) (row : _) (loop : Loops) (p q : Pt) → BlockOver w (shown shape row) loop p q → StmtsOver w row loop p q
  block-shown shape row loop p q at = block-row row loop p q (subst (λ ss. BlockOver w ss loop p q) (stmts-shown shape row) at)

  clauses-row : {n : _} (row : Row_of-TypedClause n) (loop : Loops) (own : ℕ) (p q : Pt) → ClausesLayerOver w (clauses_in _ row) loop own p q → ClausesOver w own row loop p q
  clauses-row end_of-TypedClause loop own p q c = c
  clauses-row (more_of-TypedClause patterns shape stmts at rest) loop own p q (n, b, m, ps, block, out, next) =
      (n, b, m, ps, block-shown shape stmts loop b m block, out, clauses-row rest loop own n q next)

  loop-shown : (turning : Loop) (shape : _) (row : _) (l : Turns Pt) → LoopOver w turning (λ l. BlockOver w (shown shape row) (Some l)) l → LoopOver w turning (λ l. StmtsOver w row (Some l)) l
  loop-shown turning shape row l (t, m, a, b, n, k, tick, tries, way, u, out, prepares, block, c) =
      (t, m, a, b, n, k, tick, tries, way, u, out, prepares, block-shown shape row (Some l) n k block, c)

  -- ---- trees

  pub expr-by-layer : (e : TypedExpr) (p q : Pt) → ExprLayerOver w (out-TypedExpr e) p q → ExprOver w e p q
  unfolding out-TypedExpr Carrier.out
  expr-by-layer (Strict' form shape operands type at) p q (m, os, ops) = (
    m,
    exprs-row operands p m (subst (λ es. ExprsOver w es p m) (exprs-shown shape operands) os),
    subst (λ es. OpsOver w (operations_of form (length es)) m q) (exprs-shown shape operands) ops,
  )
  expr-by-layer (Implied value type at) p q h = h
  expr-by-layer (Variable slot narrowed type at) p q h = h
  expr-by-layer (And' _ left _ right type at) p q h = h
  expr-by-layer (Or' _ left _ right type at) p q h = h
  expr-by-layer (Conditional' _ condition _ middle _ last type at) p q h = h
  expr-by-layer (Elvis' own _ left _ right type at) p q h = h
  expr-by-layer (Check' panics own _ operand type at) p q h = h
  expr-by-layer (Trap' _ operand type at) p q h = h
  expr-by-layer (Function' function _ value type at) p q h = h
  expr-by-layer (Parens' _ inner type at) p q h = h

  pub stmt-by-layer : (s : TypedStmt) (loop : Loops) (p q : Pt) → StmtLayerOver w (out-TypedStmt s) loop p q → StmtOver w s loop p q
  unfolding out-TypedStmt Carrier.out
  stmt-by-layer (Set slot value at) loop p q h = h
  stmt-by-layer (Perform form operands at) loop p q h = h
  stmt-by-layer (Update t op value at) loop p q h = h
  stmt-by-layer (If' condition shape first shape' second at) loop p q (m, a, (i, k, j, n, t, x, c, u, y, d)) =
      (m, a, (i, k, j, n, t, block-shown shape first loop i k x, c, u, block-shown shape' second loop j n y, d))
  stmt-by-layer (While' condition shape body at) loop p q (l, c, way, d) =
      (l, c, loop-shown (AsLongAs condition.value []) shape body l way, d)
  stmt-by-layer (Foreach' slot source shape body at) loop p q (m, l, b, c, way, d) =
      (m, l, b, c, loop-shown (loop_of w slot source) shape body l way, d)
  stmt-by-layer (Match' own subject shape clauses at) loop p q (m, n, a, o, cs) =
      (m, n, a, o, clauses-row clauses loop own n q (subst (λ x. ClausesLayerOver w x loop own n q) (clauses-shown shape clauses) cs))
  stmt-by-layer (Return None at) loop p q h = h
  stmt-by-layer (Return (Some e) at) loop p q h = h
  stmt-by-layer (BlockStmt shape stmts at) loop p q at' = block-shown shape stmts loop p q at'
  stmt-by-layer (Break at) loop p q h = h
  stmt-by-layer (Continue at) loop p q h = h
