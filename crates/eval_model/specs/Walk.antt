-- The ways through a tree: which operations are done one behind another, and where ways part and meet. What a point is, is
-- left open: a place of code, what is known of slots there, or the types of the operands that are there.
use Rattle.std.specs.Prelude.{◌+◌, ◌++◌, ℕ, List, [], ◌∷◌, Option, Some, None, true, false, IsSomeAnd, length, negsuc}
use Rattle.type_model.specs.declared.basic.SemType.{SemType}
use Rattle.operations.specs.declared.library.LibraryCall.TheVariants.{ListLength}
use Rattle.operations.specs.declared.operation.Constant.{Constant}
use Rattle.operations.specs.declared.operation.Constant.TheVariants as constant
use Rattle.operations.specs.declared.operation.Operation.{Operation}
use Rattle.operations.specs.declared.operation.Operation.TheVariants.{Const, Load, Store, LoadModule, StoreModule, Tick, Less, LessEqual, GetItem, Test, Library, Return as ReturnOp}
use Rattle.typed_tree.specs.declared.expr.TypedExpr.{TypedExpr, Strict', Implied, Local as Variable, And', Or', Conditional', Elvis', Check', Trap', Function', Parens', Row_of-TypedExpr, end_of-TypedExpr, more_of-TypedExpr, items-the_row-TypedExpr as exprs_in}
use Rattle.typed_tree.specs.declared.form.Operator.{Operator}
use Rattle.typed_tree.specs.declared.stmt.RangeEnd.TheVariants.{Included, Excluded}
use Rattle.typed_tree.specs.declared.stmt.Source.{Source}
use Rattle.typed_tree.specs.declared.stmt.Source.TheVariants.{Range, List as ListSource}
use Rattle.typed_tree.specs.declared.stmt.TypedPattern.{TypedPattern}
use Rattle.typed_tree.specs.declared.stmt.TypedStmt.{TypedStmt, Set, Perform, Update, If', While', Foreach', Match', Return, Block' as BlockStmt, Break, Continue, Row_of-TypedStmt, end_of-TypedStmt, more_of-TypedStmt, Row_of-TypedClause, end_of-TypedClause, more_of-TypedClause}
use Rattle.typed_tree.specs.declared.stmt.UpdateTarget.{UpdateTarget}
use Rattle.typed_tree.specs.declared.stmt.UpdateTarget.TheVariants as target
use Rattle.typed_tree.specs.declared.unit.Captured.{Captured}
use Rattle.typed_tree.specs.SharedTypes.{sem_of}
use Rattle.held_operations.specs.Constructs.{operations_of, operator_operations, perform_operations}
use Rattle.held_operations.specs.Operation.{singleton}
use Rattle.eval_model.specs.Expressions.{check_ends, error_type, makes_function, narrowed_to, nil_type}
use Rattle.eval_model.specs.Loops.{raises}
use Rattle.eval_model.specs.Statements.{reads_member, sets_member}
use Rattle.eval_model.specs.Tasks.{Loop, AsLongAs, OverRange, OverList}
use Rattle.eval_model.specs.Ways.{Ways, Turns}

module _ {Pt : Type 0} (w : Ways Pt) where
  abbrev pub OpsOver : List Operation → Pt → Pt → Type 0
  OpsOver [] p q = w.comes p q
  OpsOver (op ∷ ops) p q = (m : Pt) × w.does op p m × OpsOver ops m q

  abbrev pub KeptOver : ℕ → SemType → List Operation → Pt → Pt → Type 0
  KeptOver slot t ops p q = (m : Pt) × w.gets slot (Some t) p m × OpsOver ops m q

  abbrev pub ForkOver : (Pt → Pt → Type 0) → (Pt → Pt → Type 0) → Pt → Pt → Type 0
  ForkOver First Second p q = (a m b n : Pt) × w.takes true p a × First a m × w.comes m q × w.takes false p b × Second b n × w.comes n q

  -- ---- expressions

  abbrev pub CapturesOver : List Captured → Pt → Pt → Type 0
  CapturesOver [] p q = w.comes p q
  CapturesOver (c ∷ cs) p q = (m : Pt) × w.gets c.slot (narrowed_to c.narrowed c.ty) p m × CapturesOver cs m q

  abbrev mutual
    pub ExprOver : TypedExpr → Pt → Pt → Type 0
    ExprOver (Strict' form shape operands type at) p q =
        (m : Pt) × RowOver operands p m × OpsOver (operations_of form (length (exprs_in _ operands))) m q
    ExprOver (Implied value type at) p q = w.does (Const value) p q
    ExprOver (Variable slot narrowed type at) p q = w.gets slot (narrowed_to narrowed type) p q
    ExprOver (And' _ left _ right type at) p q =
        (m : Pt) × ExprOver left p m × ForkOver (ExprOver right) (OpsOver (Const (constant.Bool false) ∷ [])) m q
    ExprOver (Or' _ left _ right type at) p q =
        (m : Pt) × ExprOver left p m × ForkOver (OpsOver (Const (constant.Bool true) ∷ [])) (ExprOver right) m q
    ExprOver (Conditional' _ condition _ middle _ last type at) p q =
        (m : Pt) × ExprOver condition p m × ForkOver (ExprOver middle) (ExprOver last) m q
    ExprOver (Elvis' own _ left _ right type at) p q =
        (m n : Pt) × ExprOver left p m × OpsOver (Store own ∷ Load own ∷ Test nil_type ∷ []) m n
        × ForkOver (ExprOver right) (KeptOver own (sem_of type) []) n q
    ExprOver (Check' panics own _ operand type at) p q =
        (m n : Pt) × ExprOver operand p m × OpsOver (Store own ∷ Load own ∷ Test error_type ∷ []) m n
        × ForkOver (KeptOver own error_type (check_ends panics ∷ [])) (KeptOver own (sem_of type) []) n q
    ExprOver (Trap' _ operand type at) p q = (a b : Pt) × w.guards p a b q × ExprOver operand a b
    ExprOver (Function' function _ value type at) p q =
        (m : Pt) × CapturesOver function.value.captured p m × w.does (makes_function function.value) m q
    ExprOver (Parens' _ inner type at) p q = ExprOver inner p q

    pub RowOver : {n : _} → Row_of-TypedExpr n → Pt → Pt → Type 0
    RowOver end_of-TypedExpr p q = w.comes p q
    RowOver (more_of-TypedExpr e rest) p q = (m : Pt) × ExprOver e p m × RowOver rest m q

  abbrev pub ExprsOver : List TypedExpr → Pt → Pt → Type 0
  ExprsOver [] p q = w.comes p q
  ExprsOver (e ∷ es) p q = (m : Pt) × ExprOver e p m × ExprsOver es m q

  -- ---- assignments with an operator

  abbrev pub UpdateOver : UpdateTarget → Operator → TypedExpr → Pt → Pt → Type 0
  UpdateOver (target.Local slot narrowed type) op value p q =
      (m n k : Pt) × w.gets slot (narrowed_to narrowed type) p m × ExprOver value m n × OpsOver (operator_operations op) n k × w.does (Store slot) k q
  UpdateOver (target.Variable x) op value p q =
      (m n k : Pt) × w.does (LoadModule x) p m × ExprOver value m n × OpsOver (operator_operations op) n k × w.does (StoreModule x) k q
  UpdateOver (target.Member own how container key type) op value p q =
      (a b c d m n k : Pt) × ExprOver container.value p a × w.does (Store own) a b × ExprOver key.value b c × w.does (Store (own + 1)) c d
      × OpsOver (Load own ∷ Load (own + 1) ∷ reads_member how own) d m
      × ExprOver value m n × OpsOver (operator_operations op) n k × w.does (sets_member how) k q

  -- ---- loops

  abbrev pub TriesOver : Loop → Pt → Pt → Type 0
  TriesOver (AsLongAs condition body) p q = ExprOver condition p q
  TriesOver (OverRange Included slot own body) p q = OpsOver (Load (own + 2) ∷ []) p q
  TriesOver (OverRange Excluded slot own body) p q = OpsOver (Load own ∷ Load (own + 1) ∷ Less ∷ []) p q
  TriesOver (OverList slot own body) p q =
      OpsOver (raises (own + 1) ++ Load (own + 1) ∷ Load own ∷ Library ListLength None 1 ∷ Less ∷ []) p q

  abbrev pub PreparesOver : Loop → Pt → Pt → Type 0
  PreparesOver (AsLongAs condition body) p q = w.comes p q
  PreparesOver (OverRange Included slot own body) p q =
      (m : Pt) × OpsOver (Load own ∷ Store slot ∷ Load own ∷ Load (own + 1) ∷ Less ∷ Store (own + 2) ∷ Load (own + 2) ∷ []) p m
      × ForkOver (OpsOver (raises own)) (OpsOver []) m q
  PreparesOver (OverRange Excluded slot own body) p q = OpsOver (Load own ∷ Store slot ∷ raises own) p q
  PreparesOver (OverList slot own body) p q = OpsOver (Load own ∷ Load (own + 1) ∷ GetItem ∷ Store slot ∷ []) p q

  -- a loop that begins its turns at l.head, with what is behind it at l.exit
  abbrev pub LoopOver : Loop → (Turns Pt → Pt → Pt → Type 0) → Turns Pt → Type 0
  LoopOver loop Body l =
      (t m a b n k : Pt) × w.does Tick l.head t × TriesOver loop t m × w.takes true m a × w.takes false m b × w.comes b l.exit
      × PreparesOver loop a n × Body l n k × w.comes k l.head

  abbrev pub loop_of : ℕ → Source → Loop
  loop_of slot (Range own end from to) = OverRange end slot own []
  loop_of slot (ListSource own list) = OverList slot own []

  abbrev pub BeginsOver : Source → Pt → Pt → Type 0
  BeginsOver (Range own Included from to) p q =
      (a b c d : Pt) × ExprOver from.value p a × w.does (Store own) a b × ExprOver to.value b c × w.does (Store (own + 1)) c d
      × OpsOver (Load own ∷ Load (own + 1) ∷ LessEqual ∷ Store (own + 2) ∷ []) d q
  BeginsOver (Range own Excluded from to) p q =
      (a b c : Pt) × ExprOver from.value p a × w.does (Store own) a b × ExprOver to.value b c × w.does (Store (own + 1)) c q
  BeginsOver (ListSource own list) p q =
      (a : Pt) × ExprOver list.value p a × OpsOver (Store own ∷ Const (constant.Int (negsuc 0)) ∷ Store (own + 1) ∷ []) a q

  -- out of the innermost loop, or to its next turn; nothing comes behind
  abbrev pub LeavesOver : Option (Turns Pt) → (Turns Pt → Pt) → Pt → Type 0
  LeavesOver loop point p = IsSomeAnd loop (λ l. w.comes p (point l))

  -- ---- matches

  abbrev pub PatternOver : ℕ → Option Constant → (Pt → Type 0) → Pt → Pt → Type 0
  PatternOver own (Some c) Next b p =
      (m a n : Pt) × OpsOver (Load own ∷ Test (singleton c) ∷ []) p m × w.takes true m a × w.comes a b × w.takes false m n × Next n
  PatternOver own None Next b p = w.comes p b

  abbrev pub PatternsOver : ℕ → List TypedPattern → Pt → Pt → Pt → Type 0
  PatternsOver own [] b p q = w.comes p q
  PatternsOver own (t ∷ ts) b p q = PatternOver own t.value (λ n. PatternsOver own ts b n q) b p

  -- ---- statements

  abbrev mutual
    pub StmtOver : TypedStmt → Option (Turns Pt) → Pt → Pt → Type 0
    StmtOver (Set slot value at) loop p q = (m : Pt) × ExprOver value.value p m × w.does (Store slot) m q
    StmtOver (Perform form operands at) loop p q = (m : Pt) × ExprsOver operands.items p m × OpsOver (perform_operations form) m q
    StmtOver (Update t op value at) loop p q = UpdateOver t op value.value p q
    StmtOver (If' condition shape first shape' second at) loop p q =
        (m : Pt) × ExprOver condition.value p m × ForkOver (StmtsOver first loop) (StmtsOver second loop) m q
    StmtOver (While' condition shape body at) loop p q =
        (l : Turns Pt) × w.comes p l.head × LoopOver (AsLongAs condition.value []) (λ l. StmtsOver body (Some l)) l × w.comes l.exit q
    StmtOver (Foreach' slot source shape body at) loop p q =
        (m : Pt) × (l : Turns Pt) × BeginsOver source p m × w.comes m l.head × LoopOver (loop_of slot source) (λ l. StmtsOver body (Some l)) l × w.comes l.exit q
    StmtOver (Match' own subject shape clauses at) loop p q =
        (m n : Pt) × ExprOver subject.value p m × w.does (Store own) m n × ClausesOver own clauses loop n q
    StmtOver (Return None at) loop p q = OpsOver (Const constant.Nil ∷ ReturnOp ∷ []) p q
    StmtOver (Return (Some e) at) loop p q = (m : Pt) × ExprOver e.value p m × w.does ReturnOp m q
    StmtOver (BlockStmt shape stmts at) loop p q = StmtsOver stmts loop p q
    StmtOver (Break at) loop p q = LeavesOver loop (λ l. l.exit) p × w.stops p q
    StmtOver (Continue at) loop p q = LeavesOver loop (λ l. l.head) p × w.stops p q

    pub StmtsOver : {n : _} → Row_of-TypedStmt n → Option (Turns Pt) → Pt → Pt → Type 0
    StmtsOver end_of-TypedStmt loop p q = w.comes p q
    StmtsOver (more_of-TypedStmt s rest) loop p q = (m : Pt) × StmtOver s loop p m × StmtsOver rest loop m q

    pub ClausesOver : {n : _} → ℕ → Row_of-TypedClause n → Option (Turns Pt) → Pt → Pt → Type 0
    ClausesOver own end_of-TypedClause loop p q = w.comes p q
    ClausesOver own (more_of-TypedClause patterns shape stmts at rest) loop p q =
        (n b m : Pt) × PatternsOver own patterns.items b p n × StmtsOver stmts loop b m × w.comes m q × ClausesOver own rest loop n q

  abbrev pub BlockOver : List TypedStmt → Option (Turns Pt) → Pt → Pt → Type 0
  BlockOver [] loop p q = w.comes p q
  BlockOver (s ∷ ss) loop p q = (m : Pt) × StmtOver s loop p m × BlockOver ss loop m q
