-- The ways through an expression or a statement by its layer, without the boxes and vectors that hold its parts.
use Rattle.std.specs.Prelude.{ℕ, List, [], ◌∷◌, Option, Some, None, true, false, length}
use Rattle.operations.specs.declared.operation.Constant.TheVariants as constant
use Rattle.operations.specs.declared.operation.Operation.TheVariants.{Const, Load, Store, Test, Return as ReturnOp}
use Rattle.typed_tree.specs.declared.expr.TypedExpr.{TypedExpr}
use Rattle.typed_tree.specs.declared.expr.TypedExpr.TheOpen as layer
use Rattle.typed_tree.specs.declared.stmt.TypedClause.{TypedClause, out-TypedClause}
use Rattle.typed_tree.specs.declared.stmt.TypedStmt.{TypedStmt, TypedStmt-F}
use Rattle.typed_tree.specs.declared.stmt.TypedStmt.TheOpen as stmt_layer
use Rattle.typed_tree.specs.ExprLayers.{TypedExprOf}
use Rattle.typed_tree.specs.SharedTypes.{sem_of}
use Rattle.held_operations.specs.Constructs.{operations_of, perform_operations}
use Rattle.eval_model.specs.Expressions.{check_ends, error_type, makes_function, narrowed_to, nil_type}
use Rattle.eval_model.specs.Tasks.{AsLongAs}
use Rattle.eval_model.specs.Walk.{BeginsOver, BlockOver, CapturesOver, ExprOver, ExprsOver, ForkOver, KeptOver, LeavesOver, LoopOver, OpsOver, PatternsOver, UpdateOver, loop_of}
use Rattle.eval_model.specs.Ways.{Turns, Ways}

module _ {Pt : Type 0} (w : Ways Pt) where
  abbrev pub ExprLayerOver : TypedExprOf TypedExpr → Pt → Pt → Type 0
  ExprLayerOver (layer.Strict form operands type at) p q =
      (m : Pt) × ExprsOver w operands.items p m × OpsOver w (operations_of form (length operands.items)) m q
  ExprLayerOver (layer.Implied value type at) p q = w.does (Const value) p q
  ExprLayerOver (layer.Local slot narrowed type at) p q = w.gets slot (narrowed_to narrowed type) p q
  ExprLayerOver (layer.And left right type at) p q =
      (m : Pt) × ExprOver w left.value p m × ForkOver w (ExprOver w right.value) (OpsOver w (Const (constant.Bool false) ∷ [])) m q
  ExprLayerOver (layer.Or left right type at) p q =
      (m : Pt) × ExprOver w left.value p m × ForkOver w (OpsOver w (Const (constant.Bool true) ∷ [])) (ExprOver w right.value) m q
  ExprLayerOver (layer.Conditional condition middle last type at) p q =
      (m : Pt) × ExprOver w condition.value p m × ForkOver w (ExprOver w middle.value) (ExprOver w last.value) m q
  ExprLayerOver (layer.Elvis own left right type at) p q =
      (m n : Pt) × ExprOver w left.value p m × OpsOver w (Store own ∷ Load own ∷ Test nil_type ∷ []) m n
      × ForkOver w (ExprOver w right.value) (KeptOver w own (sem_of type) []) n q
  ExprLayerOver (layer.Check panics own operand type at) p q =
      (m n : Pt) × ExprOver w operand.value p m × OpsOver w (Store own ∷ Load own ∷ Test error_type ∷ []) m n
      × ForkOver w (KeptOver w own error_type (check_ends panics ∷ [])) (KeptOver w own (sem_of type) []) n q
  ExprLayerOver (layer.Trap operand type at) p q = (a b : Pt) × w.guards p a b q × ExprOver w operand.value a b
  ExprLayerOver (layer.Function function value type at) p q =
      (m : Pt) × CapturesOver w function.value.captured p m × w.does (makes_function function.value) m q
  ExprLayerOver (layer.Parens inner type at) p q = ExprOver w inner.value p q

  abbrev pub ClausesLayerOver : List TypedClause → Option (Turns Pt) → ℕ → Pt → Pt → Type 0
  ClausesLayerOver [] loop own p q = w.comes p q
  ClausesLayerOver (c ∷ cs) loop own p q =
      (n b m : Pt) × PatternsOver w own (out-TypedClause c).patterns.items b p n × BlockOver w (out-TypedClause c).stmts.items loop b m
      × w.comes m q × ClausesLayerOver cs loop own n q

  abbrev pub StmtLayerOver : TypedStmt-F TypedStmt TypedClause → Option (Turns Pt) → Pt → Pt → Type 0
  StmtLayerOver (stmt_layer.Set slot value at) loop p q = (m : Pt) × ExprOver w value.value p m × w.does (Store slot) m q
  StmtLayerOver (stmt_layer.Perform form operands at) loop p q =
      (m : Pt) × ExprsOver w operands.items p m × OpsOver w (perform_operations form) m q
  StmtLayerOver (stmt_layer.Update target op value at) loop p q = UpdateOver w target op value.value p q
  StmtLayerOver (stmt_layer.If condition first second at) loop p q =
      (m : Pt) × ExprOver w condition.value p m × ForkOver w (BlockOver w first.items loop) (BlockOver w second.items loop) m q
  StmtLayerOver (stmt_layer.While condition body at) loop p q =
      (l : Turns Pt) × w.comes p l.head × LoopOver w (AsLongAs condition.value []) (λ l. BlockOver w body.items (Some l)) l × w.comes l.exit q
  StmtLayerOver (stmt_layer.Foreach slot source body at) loop p q =
      (m : Pt) × (l : Turns Pt) × BeginsOver w source p m × w.comes m l.head
      × LoopOver w (loop_of w slot source) (λ l. BlockOver w body.items (Some l)) l × w.comes l.exit q
  StmtLayerOver (stmt_layer.Match own subject clauses at) loop p q =
      (m n : Pt) × ExprOver w subject.value p m × w.does (Store own) m n × ClausesLayerOver clauses.items loop own n q
  StmtLayerOver (stmt_layer.Return None at) loop p q = OpsOver w (Const constant.Nil ∷ ReturnOp ∷ []) p q
  StmtLayerOver (stmt_layer.Return (Some e) at) loop p q = (m : Pt) × ExprOver w e.value p m × w.does ReturnOp m q
  StmtLayerOver (stmt_layer.Block stmts at) loop p q = BlockOver w stmts.items loop p q
  StmtLayerOver (stmt_layer.Break at) loop p q = LeavesOver w loop (λ l. l.exit) p × w.stops p q
  StmtLayerOver (stmt_layer.Continue at) loop p q = LeavesOver w loop (λ l. l.head) p × w.stops p q
