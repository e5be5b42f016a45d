-- Where everything is a way there is one through each construct.
use Rattle.std.proofs.Common.{ℕ, ◌+◌, ◌++◌, List, [], ◌∷◌, Option, Some, None, true, false}
use Rattle.std.specs.Prelude.{length, negsuc}
use Rattle.operations.specs.declared.library.LibraryCall.TheVariants.{ListLength}
use Rattle.operations.specs.declared.operation.Constant.{Constant}
use Rattle.operations.specs.declared.operation.Constant.TheVariants as constant
use Rattle.operations.specs.declared.operation.Operation.{Operation}
use Rattle.operations.specs.declared.operation.Operation.TheVariants.{Const, Load, Store, Less, LessEqual, GetItem, Library, Test, Return as ReturnOp}
use Rattle.typed_tree.specs.declared.expr.TypedExpr.{TypedExpr, Strict', Implied, Local as Variable, And', Or', Conditional', Elvis', Check', Trap', Function', Parens', Row_of-TypedExpr, end_of-TypedExpr, more_of-TypedExpr, items-the_row-TypedExpr as exprs_in}
use Rattle.typed_tree.specs.declared.form.Operator.{Operator}
use Rattle.typed_tree.specs.declared.stmt.RangeEnd.TheVariants.{Included, Excluded}
use Rattle.typed_tree.specs.declared.stmt.Source.{Source}
use Rattle.typed_tree.specs.declared.stmt.Source.TheVariants.{Range, List as ListSource}
use Rattle.typed_tree.specs.declared.stmt.TypedPattern.{TypedPattern}
use Rattle.typed_tree.specs.declared.stmt.TypedStmt.{TypedStmt, Set, Perform, Update, If', While', Foreach', Match', Return, Block' as BlockStmt, Break, Continue, Row_of-TypedStmt, end_of-TypedStmt, more_of-TypedStmt, Row_of-TypedClause, end_of-TypedClause, more_of-TypedClause}
use Rattle.typed_tree.specs.declared.stmt.UpdateTarget.{UpdateTarget}
use Rattle.typed_tree.specs.declared.stmt.UpdateTarget.TheVariants as target
use Rattle.typed_tree.specs.declared.unit.Captured.{Captured}
use Rattle.held_operations.specs.Constructs.{operations_of, operator_operations, perform_operations}
use Rattle.held_operations.specs.Operation.{singleton}
use Rattle.eval_model.specs.Expressions.{check_ends, error_type, nil_type}
use Rattle.eval_model.specs.Loops.{raises}
use Rattle.eval_model.specs.Statements.{reads_member}
use Rattle.eval_model.specs.Tasks.{Loop, AsLongAs, OverRange, OverList}
use Rattle.eval_model.specs.Walk.{CapturesOver, OpsOver, ExprOver, RowOver, ExprsOver, UpdateOver, TriesOver, PreparesOver, LoopOver, loop_of, BeginsOver, PatternOver, PatternsOver, StmtOver, StmtsOver, ClausesOver}
use Rattle.eval_model.specs.Ways.{Turns, Ways, all_ways}

abbrev W : Ways (Unit {0})
W = all_ways

abbrev inside : Turns (Unit {0})
inside = record { head = tt; exit = tt }

ops : (os : List Operation) → OpsOver W os tt tt
ops [] = tt
ops (o ∷ os) = (tt, tt, ops os)

captured : (cs : List Captured) → CapturesOver W cs tt tt
captured [] = tt
captured (c ∷ cs) = (tt, tt, captured cs)

mutual
  expr : (e : TypedExpr) → ExprOver W e tt tt
  expr (Strict' form shape operands type at) = (tt, row operands, ops (operations_of form (length (exprs_in _ operands))))
  expr (Implied value type at) = tt
  expr (Variable slot narrowed type at) = tt
  expr (And' _ left _ right type at) = (tt, expr left, (tt, tt, tt, tt, tt, expr right, tt, tt, ops (Const (constant.Bool false) ∷ []), tt))
  expr (Or' _ left _ right type at) = (tt, expr left, (tt, tt, tt, tt, tt, ops (Const (constant.Bool true) ∷ []), tt, tt, expr right, tt))
  expr (Conditional' _ condition _ middle _ last type at) = (tt, expr condition, (tt, tt, tt, tt, tt, expr middle, tt, tt, expr last, tt))
  expr (Elvis' own _ left _ right type at) =
      (tt, tt, expr left, ops (Store own ∷ Load own ∷ Test nil_type ∷ []), (tt, tt, tt, tt, tt, expr right, tt, tt, (tt, tt, ops []), tt))
  expr (Check' panics own _ operand type at) =
      (tt, tt, expr operand, ops (Store own ∷ Load own ∷ Test error_type ∷ []), (tt, tt, tt, tt, tt, (tt, tt, ops (check_ends panics ∷ [])), tt, tt, (tt, tt, ops []), tt))
  expr (Trap' _ operand type at) = (tt, tt, tt, expr operand)
  expr (Function' function _ value type at) = (tt, captured function.value.captured, tt)
  expr (Parens' _ inner type at) = expr inner

  row : {n : _} (es : Row_of-TypedExpr n) → RowOver W es tt tt
  row end_of-TypedExpr = tt
  row (more_of-TypedExpr e rest) = (tt, expr e, row rest)

exprs : (es : List TypedExpr) → ExprsOver W es tt tt
exprs [] = tt
exprs (e ∷ es) = (tt, expr e, exprs es)

update : (t : UpdateTarget) (op : Operator) (value : TypedExpr) → UpdateOver W t op value tt tt
update (target.Local slot narrowed type) op value = (tt, tt, tt, tt, expr value, ops (operator_operations op), tt)
update (target.Variable x) op value = (tt, tt, tt, tt, expr value, ops (operator_operations op), tt)
update (target.Member own how container key type) op value =
    (tt, tt, tt, tt, tt, tt, tt, expr container.value, tt, expr key.value, tt, ops (Load own ∷ Load (own + 1) ∷ reads_member how own), expr value, ops (operator_operations op), tt)

tries : (l : Loop) → TriesOver W l tt tt
tries (AsLongAs condition body) = expr condition
tries (OverRange Included slot own body) = ops (Load (own + 2) ∷ [])
tries (OverRange Excluded slot own body) = ops (Load own ∷ Load (own + 1) ∷ Less ∷ [])
tries (OverList slot own body) = ops (raises (own + 1) ++ Load (own + 1) ∷ Load own ∷ Library ListLength None 1 ∷ Less ∷ [])

prepares : (l : Loop) → PreparesOver W l tt tt
prepares (AsLongAs condition body) = tt
prepares (OverRange Included slot own body) =
    (tt, ops (Load own ∷ Store slot ∷ Load own ∷ Load (own + 1) ∷ Less ∷ Store (own + 2) ∷ Load (own + 2) ∷ []), (tt, tt, tt, tt, tt, ops (raises slot), tt, tt, ops [], tt))
prepares (OverRange Excluded slot own body) = ops (Load own ∷ Store slot ∷ raises own)
prepares (OverList slot own body) = ops (Load own ∷ Load (own + 1) ∷ GetItem ∷ Store slot ∷ [])

loops : (l : Loop) (Body : Turns (Unit {0}) → Unit {0} → Unit {0} → Type 0) → Body inside tt tt → LoopOver W l Body inside
loops l Body b = (tt, tt, tt, tt, tt, tt, tt, tries l, tt, tt, tt, prepares l, b, tt)

begins : (s : Source) → BeginsOver W s tt tt
begins (Range own Included from to) =
    (tt, tt, tt, tt, expr from.value, tt, expr to.value, tt, ops (Load own ∷ Load (own + 1) ∷ LessEqual ∷ Store (own + 2) ∷ []))
begins (Range own Excluded from to) = (tt, tt, tt, expr from.value, tt, expr to.value, tt)
begins (ListSource own list) = (tt, expr list.value, ops (Store own ∷ Const (constant.Int (negsuc 0)) ∷ Store (own + 1) ∷ []))

pattern : (own : ℕ) (c : Option Constant) (Next : Unit {0} → Type 0) → Next tt → PatternOver W own c Next tt tt
pattern own (Some c) Next n = (tt, tt, tt, ops (Load own ∷ Test (singleton c) ∷ []), tt, tt, tt, n)
pattern own None Next n = tt

patterns : (own : ℕ) (ts : List TypedPattern) → PatternsOver W own ts tt tt tt
patterns own [] = tt
patterns own (t ∷ ts) = pattern own t.value (λ n. PatternsOver W own ts tt n tt) (patterns own ts)

mutual
  stmt : (s : TypedStmt) → StmtOver W s (Some inside) tt tt
  stmt (Set slot value at) = (tt, expr value.value, tt)
  stmt (Perform form operands at) = (tt, exprs operands.items, ops (perform_operations form))
  stmt (Update t op value at) = update t op value.value
  stmt (If' condition shape first shape' second at) = (tt, expr condition.value, (tt, tt, tt, tt, tt, stmts first, tt, tt, stmts second, tt))
  stmt (While' condition shape body at) =
      (inside, tt, loops (AsLongAs condition.value []) (λ l. StmtsOver W body (Some l)) (stmts body), tt)
  stmt (Foreach' slot source shape body at) =
      (tt, inside, begins source, tt, loops (loop_of W slot source) (λ l. StmtsOver W body (Some l)) (stmts body), tt)
  stmt (Match' own subject shape cs at) = (tt, tt, expr subject.value, tt, clauses own cs)
  stmt (Return None at) = ops (Const constant.Nil ∷ ReturnOp ∷ [])
  stmt (Return (Some e) at) = (tt, expr e.value, tt)
  stmt (BlockStmt shape ss at) = stmts ss
  stmt (Break at) = (tt, tt)
  stmt (Continue at) = (tt, tt)

  stmts : {n : _} (ss : Row_of-TypedStmt n) → StmtsOver W ss (Some inside) tt tt
  stmts end_of-TypedStmt = tt
  stmts (more_of-TypedStmt s rest) = (tt, stmt s, stmts rest)

  clauses : {n : _} (own : ℕ) (cs : Row_of-TypedClause n) → ClausesOver W own cs (Some inside) tt tt
  clauses own end_of-TypedClause = tt
  clauses own (more_of-TypedClause ps shape ss at rest) = (tt, tt, tt, patterns own ps.items, stmts ss, tt, clauses own rest)

pub each-expr : (e : TypedExpr) → ExprOver all_ways e tt tt
each-expr = expr

pub each-stmt : (s : TypedStmt) → StmtOver all_ways s (Some inside) tt tt
each-stmt = stmt
