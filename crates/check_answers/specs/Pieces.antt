-- Typed trees written out: what each node says, and the types that stand in it. Two trees are the same where they are written alike, but
-- for types that are twins.
use Rattle.std.specs.Prelude.{◌≡◌, ℕ, Bool, List, map, Option, Some, None, ⊤}
use Rattle.bal_base.specs.declared.place.Place.{Place}
use Rattle.bal_base.specs.declared.text.Name.{Name}
use Rattle.operations.specs.declared.library.LibraryCall.{LibraryCall}
use Rattle.operations.specs.declared.operation.Constant.{Constant}
use Rattle.type_model.specs.declared.basic.Ty.{Ty}
use Rattle.typed_tree.specs.declared.event.SeenEvent.{SeenEvent}
use Rattle.typed_tree.specs.declared.expr.AnonymousFunction.{AnonymousFunction}
use Rattle.typed_tree.specs.declared.expr.TypedExpr.{TypedExpr}
use Rattle.typed_tree.specs.declared.expr.TypedExpr.TheOpen as layer
use Rattle.typed_tree.specs.declared.form.Operator.{Operator}
use Rattle.typed_tree.specs.declared.form.Read.{Read}
use Rattle.typed_tree.specs.declared.form.StrictForm.{StrictForm}
use Rattle.typed_tree.specs.declared.form.StrictForm.TheVariants as form
use Rattle.typed_tree.specs.declared.package.Initial.{Initial}
use Rattle.typed_tree.specs.declared.package.Initialiser.{Initialiser}
use Rattle.typed_tree.specs.declared.package.ModuleVariable.{ModuleVariable}
use Rattle.typed_tree.specs.declared.stmt.PerformForm.{PerformForm}
use Rattle.typed_tree.specs.declared.stmt.RangeEnd.{RangeEnd}
use Rattle.typed_tree.specs.declared.stmt.Source.{Source}
use Rattle.typed_tree.specs.declared.stmt.Source.TheVariants as source
use Rattle.typed_tree.specs.declared.stmt.TypedClause.{TypedClause}
use Rattle.typed_tree.specs.declared.stmt.TypedPattern.{TypedPattern}
use Rattle.typed_tree.specs.declared.stmt.TypedStmt.{TypedStmt}
use Rattle.typed_tree.specs.declared.stmt.TypedStmt.TheOpen as stmt_layer
use Rattle.typed_tree.specs.declared.stmt.UpdateTarget.{UpdateTarget}
use Rattle.typed_tree.specs.declared.stmt.UpdateTarget.TheVariants as target
use Rattle.typed_tree.specs.declared.unit.Captured.{Captured}
use Rattle.typed_tree.specs.declared.unit.TypedBody.{TypedBody}
use Rattle.typed_tree.specs.declared.unit.TypedBody.TheVariants as body
use Rattle.typed_tree.specs.declared.unit.TypedFunction.{TypedFunction}
use Rattle.typed_tree.specs.declared.unit.TypedUnit.{TypedUnit}
use Rattle.typed_tree.specs.declared.unit.TypedWorker.{TypedWorker}
use Rattle.typed_tree.specs.ExprLayers.{TypedExprOf, of_typed_expr}
use Rattle.typed_tree.specs.Listed.{Listed, nothing, one, ◌&◌, joined}
use Rattle.typed_tree.specs.SharedTypes.{Shared}
use Rattle.typed_tree.specs.StmtLayers.{TypedClauseOf, TypedStmtOf, TypedStmtSteps, of_typed_clause, of_typed_stmt}

-- what a node says, but for its types and its parts
pub data Said : Type 0 where
  -- expressions and actions
  IsStrict : Place → Said
  IsImplied : Constant → Place → Said
  IsLocal : ℕ → Bool → Place → Said
  IsAnd : Place → Said
  IsOr : Place → Said
  IsConditional : Place → Said
  IsElvis : ℕ → Place → Said
  IsCheck : Bool → ℕ → Place → Said
  IsTrap : Place → Said
  IsFunction : Bool → ℕ → Place → Said
  IsParens : Place → Said
  -- what constructs do that evaluate all their operands: a form that has no type in it, or one that has
  DoesForm : StrictForm → Said
  DoesTest : Said
  DoesCast : Said
  DoesCall : LibraryCall → Option ℕ → Said
  HasNone : Said
  -- statements
  IsSet : ℕ → Place → Said
  IsPerform : PerformForm → Place → Said
  IsUpdate : Operator → Place → Said
  ToLocal : ℕ → Bool → Said
  ToVariable : ℕ → Said
  ToMember : ℕ → Read → Said
  IsIf : Place → Said
  IsWhile : Place → Said
  IsForeach : ℕ → Place → Said
  OverRange : ℕ → RangeEnd → Said
  OverList : ℕ → Said
  IsMatch : ℕ → Place → Said
  IsClause : List TypedPattern → Place → Said
  IsReturn : Place → Said
  IsBlock : Place → Said
  IsBreak : Place → Said
  IsContinue : Place → Said
  -- units, and what stands in a package
  IsUnit : (number params : ℕ) → (rest : Option ℕ) → (arrow future : ℕ) → Said
  IsCaptured : ℕ → Bool → Place → Said
  IsNamed : («module» file : ℕ) → Name → (public isolated : Bool) → List SeenEvent → Place → Said
  IsWorker : Name → Bool → (close at : Place) → Said
  IsBlockBody : Bool → Place → Said
  IsExprBody : Said
  IsVariable : («module» file : ℕ) → Name → Bool → Place → Said
  IsInitialiser : ℕ → Said
  IsInitial : ℕ → Place → Said

-- a piece of a tree
pub data Piece : Type 0 where
  Says : Said → Piece
  OfType : Ty → Piece

abbrev pub says : Said → Listed Piece
says s = one (Says s)

abbrev pub of_type : Shared → Listed Piece
of_type t = one (OfType t.value)

abbrev pub of_types : List Shared → Listed Piece
of_types ts = joined (map of_type ts)

-- ---- expressions

abbrev pub cast_pieces : Option Shared → Listed Piece
cast_pieces None = says HasNone
cast_pieces (Some t) = of_type t

abbrev pub form_pieces : StrictForm → Listed Piece
form_pieces (form.Literal c) = says (DoesForm (form.Literal c))
form_pieces (form.Constant c) = says (DoesForm (form.Constant c))
form_pieces (form.Variable number) = says (DoesForm (form.Variable number))
form_pieces (form.FunctionName unit) = says (DoesForm (form.FunctionName unit))
form_pieces (form.Operator op) = says (DoesForm (form.Operator op))
form_pieces (form.Is t) = says DoesTest & of_type t
form_pieces (form.Cast t) = says DoesCast & of_type t
form_pieces (form.List atom immutable) = says (DoesForm (form.List atom immutable))
form_pieces (form.Mapping atom immutable) = says (DoesForm (form.Mapping atom immutable))
form_pieces form.Error = says (DoesForm form.Error)
form_pieces (form.Read read) = says (DoesForm (form.Read read))
form_pieces (form.Call callee) = says (DoesForm (form.Call callee))
form_pieces (form.Library call atom cast) = says (DoesCall call atom) & cast_pieces cast
form_pieces (form.Start callee) = says (DoesForm (form.Start callee))
form_pieces (form.Send peer) = says (DoesForm (form.Send peer))
form_pieces (form.SyncSend peer) = says (DoesForm (form.SyncSend peer))
form_pieces (form.Receive peer) = says (DoesForm (form.Receive peer))
form_pieces (form.Flush peer) = says (DoesForm (form.Flush peer))
form_pieces (form.WaitAny awaited) = says (DoesForm (form.WaitAny awaited))
form_pieces (form.WaitAll atom awaited) = says (DoesForm (form.WaitAll atom awaited))

abbrev pub unit_pieces : TypedUnit → Listed Piece
unit_pieces u = says (IsUnit u.number u.params u.rest u.arrow u.future) & of_types u.slots & of_type u.result

abbrev pub captured_pieces : Captured → Listed Piece
captured_pieces c = says (IsCaptured c.slot c.narrowed c.at) & of_type c.ty

abbrev pub all_captured : List Captured → Listed Piece
all_captured cs = joined (map captured_pieces cs)

abbrev pub function_head : AnonymousFunction → Listed Piece
function_head f = unit_pieces f.unit & all_captured f.captured

-- an expression: its pieces but for its own type, and this
pub record Written : Type 0 where
  pub inner : Listed Piece
  pub ty : Ty

abbrev pub whole : Written → Listed Piece
whole w = w.inner & one (OfType w.ty)

abbrev pub with_type : Shared → Listed Piece → Written
with_type t l = record { inner = l; ty = t.value }

abbrev pub expr_step : TypedExprOf Written → Written
expr_step (layer.Strict form operands type at) = with_type type (says (IsStrict at) & form_pieces form & joined (map whole operands.items))
expr_step (layer.Implied value type at) = with_type type (says (IsImplied value at))
expr_step (layer.Local slot narrowed type at) = with_type type (says (IsLocal slot narrowed at))
expr_step (layer.And left right type at) = with_type type (says (IsAnd at) & whole left.value & whole right.value)
expr_step (layer.Or left right type at) = with_type type (says (IsOr at) & whole left.value & whole right.value)
expr_step (layer.Conditional condition middle last type at) =
    with_type type (says (IsConditional at) & whole condition.value & whole middle.value & whole last.value)
expr_step (layer.Elvis own left right type at) = with_type type (says (IsElvis own at) & whole left.value & whole right.value)
expr_step (layer.Check panics own operand type at) = with_type type (says (IsCheck panics own at) & whole operand.value)
expr_step (layer.Trap operand type at) = with_type type (says (IsTrap at) & whole operand.value)
expr_step (layer.Function function value type at) =
    with_type type (says (IsFunction function.value.isolated function.value.args at) & function_head function.value & whole value.value)
expr_step (layer.Parens inner type at) = with_type type (says (IsParens at) & whole inner.value)

abbrev pub written : TypedExpr → Written
written = of_typed_expr expr_step

abbrev pub expr_pieces : TypedExpr → Listed Piece
expr_pieces e = whole (written e)

-- ---- statements

abbrev pub target_pieces : UpdateTarget → Listed Piece
target_pieces (target.Local slot narrowed t) = says (ToLocal slot narrowed) & of_type t
target_pieces (target.Variable number) = says (ToVariable number)
target_pieces (target.Member own read container key t) = says (ToMember own read) & expr_pieces container.value & expr_pieces key.value & of_type t

abbrev pub source_pieces : Source → Listed Piece
source_pieces (source.Range own end from to) = says (OverRange own end) & expr_pieces from.value & expr_pieces to.value
source_pieces (source.List own list) = says (OverList own) & expr_pieces list.value

abbrev pub stmt_step : TypedStmtOf (Listed Piece) → Listed Piece
stmt_step (stmt_layer.Set slot value at) = says (IsSet slot at) & expr_pieces value.value
stmt_step (stmt_layer.Perform form operands at) = says (IsPerform form at) & joined (map expr_pieces operands.items)
stmt_step (stmt_layer.Update what op value at) = says (IsUpdate op at) & target_pieces what & expr_pieces value.value
stmt_step (stmt_layer.If condition first second at) = says (IsIf at) & expr_pieces condition.value & joined first.items & joined second.items
stmt_step (stmt_layer.While condition body at) = says (IsWhile at) & expr_pieces condition.value & joined body.items
stmt_step (stmt_layer.Foreach slot over body at) = says (IsForeach slot at) & source_pieces over & joined body.items
stmt_step (stmt_layer.Match own subject clauses at) = says (IsMatch own at) & expr_pieces subject.value & joined clauses.items
stmt_step (stmt_layer.Return None at) = says (IsReturn at) & says HasNone
stmt_step (stmt_layer.Return (Some value) at) = says (IsReturn at) & expr_pieces value.value
stmt_step (stmt_layer.Block stmts at) = says (IsBlock at) & joined stmts.items
stmt_step (stmt_layer.Break at) = says (IsBreak at)
stmt_step (stmt_layer.Continue at) = says (IsContinue at)

abbrev pub clause_step : TypedClauseOf (Listed Piece) → Listed Piece
clause_step c = says (IsClause c.patterns.items c.at) & joined c.stmts.items

abbrev pub stmt_steps : TypedStmtSteps (Listed Piece)
stmt_steps = record { stmt = stmt_step; clause = clause_step }

abbrev pub stmt_pieces : TypedStmt → Listed Piece
stmt_pieces = of_typed_stmt stmt_steps

abbrev pub clause_pieces : TypedClause → Listed Piece
clause_pieces = of_typed_clause stmt_steps

abbrev pub stmts_pieces : List TypedStmt → Listed Piece
stmts_pieces ss = joined (map stmt_pieces ss)

-- ---- what stands in a package

abbrev pub worker_pieces : TypedWorker → Listed Piece
worker_pieces w = says (IsWorker w.name w.ends w.close w.at) & unit_pieces w.unit & all_captured w.captured & stmts_pieces w.stmts.items

abbrev pub body_pieces : TypedBody → Listed Piece
body_pieces (body.Block initial workers rest ends close) =
    says (IsBlockBody ends close) & stmts_pieces initial.items & joined (map worker_pieces workers.items) & stmts_pieces rest.items
body_pieces (body.Expr value) = says IsExprBody & expr_pieces value.value

abbrev pub function_pieces : TypedFunction → Listed Piece
function_pieces f = says (IsNamed f.«module» f.file f.name f.public f.isolated f.events f.at) & unit_pieces f.unit & body_pieces f.body

abbrev pub variable_pieces : ModuleVariable → Listed Piece
variable_pieces v = says (IsVariable v.«module» v.file v.name v.is_final v.at) & of_type v.ty

abbrev pub initial_pieces : Initial → Listed Piece
initial_pieces i = says (IsInitial i.variable i.at) & expr_pieces i.value.value

abbrev pub initialiser_pieces : Initialiser → Listed Piece
initialiser_pieces i = says (IsInitialiser i.«module») & unit_pieces i.unit & joined (map initial_pieces i.values.items)

-- ---- trees that are written alike

-- `D`: which types correspond
module _ (D : Ty → Ty → Type 0) where
  abbrev pub SamePiece : Piece → Piece → Type 0
  SamePiece (Says a) (Says b) = b ≡ a
  SamePiece (OfType s) (OfType t) = D s t
  SamePiece (Says a) (OfType t) = ⊥
  SamePiece (OfType s) (Says b) = ⊥

  abbrev pub SamePieces : Listed Piece → Listed Piece → Type 0
  SamePieces nothing nothing = ⊤
  SamePieces (one a) (one b) = SamePiece a b
  SamePieces (p & q) (r & s) = SamePieces p r × SamePieces q s
  SamePieces nothing (one b) = ⊥
  SamePieces nothing (r & s) = ⊥
  SamePieces (one a) nothing = ⊥
  SamePieces (one a) (r & s) = ⊥
  SamePieces (p & q) nothing = ⊥
  SamePieces (p & q) (one b) = ⊥
