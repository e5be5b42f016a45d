-- Typed statements by their parts, without the boxes and vectors that hold them: one view for each variant.
use Rattle.std.specs.Prelude.{◌≡◌, ℕ, List, Some, None}
use Rattle.std.specs.Global.{Box, Vec}
use Rattle.bal_base.specs.declared.place.Place.{Place}
use Rattle.typed_tree.specs.declared.expr.TypedExpr.{TypedExpr}
use Rattle.typed_tree.specs.declared.form.Operator.{Operator}
use Rattle.typed_tree.specs.declared.form.Read.{Read}
use Rattle.typed_tree.specs.declared.stmt.PerformForm.{PerformForm}
use Rattle.typed_tree.specs.declared.stmt.RangeEnd.{RangeEnd}
use Rattle.typed_tree.specs.declared.stmt.Source.{Source}
use Rattle.typed_tree.specs.declared.stmt.Source.TheVariants as source
use Rattle.typed_tree.specs.declared.stmt.TypedClause.{TypedClause, out-TypedClause}
use Rattle.typed_tree.specs.declared.stmt.TypedPattern.{TypedPattern}
use Rattle.typed_tree.specs.declared.stmt.TypedStmt.{TypedStmt, out-TypedStmt}
use Rattle.typed_tree.specs.declared.stmt.TypedStmt.TheOpen as layer
use Rattle.typed_tree.specs.declared.stmt.UpdateTarget.{UpdateTarget}
use Rattle.typed_tree.specs.declared.stmt.UpdateTarget.TheVariants as target
use Rattle.typed_tree.specs.SharedTypes.{Shared}

abbrev pub IsSet : ℕ → TypedExpr → Place → TypedStmt → Type 0
IsSet slot value at s = (v : Box TypedExpr) × (out-TypedStmt s ≡ layer.Set slot v at) × (v.value ≡ value)

abbrev pub IsPerform : PerformForm → List TypedExpr → Place → TypedStmt → Type 0
IsPerform form operands at s = (v : Vec TypedExpr) × (out-TypedStmt s ≡ layer.Perform form v at) × (v.items ≡ operands)

abbrev pub IsUpdate : UpdateTarget → Operator → TypedExpr → Place → TypedStmt → Type 0
IsUpdate what op value at s = (v : Box TypedExpr) × (out-TypedStmt s ≡ layer.Update what op v at) × (v.value ≡ value)

abbrev pub IsIf : TypedExpr → List TypedStmt → List TypedStmt → Place → TypedStmt → Type 0
IsIf condition first second at s =
    (c : Box TypedExpr) × (v w : Vec TypedStmt) × (out-TypedStmt s ≡ layer.If c v w at) × (c.value ≡ condition) × (v.items ≡ first) × (w.items ≡ second)

abbrev pub IsWhile : TypedExpr → List TypedStmt → Place → TypedStmt → Type 0
IsWhile condition body at s =
    (c : Box TypedExpr) × (v : Vec TypedStmt) × (out-TypedStmt s ≡ layer.While c v at) × (c.value ≡ condition) × (v.items ≡ body)

abbrev pub IsForeach : ℕ → Source → List TypedStmt → Place → TypedStmt → Type 0
IsForeach slot over body at s = (v : Vec TypedStmt) × (out-TypedStmt s ≡ layer.Foreach slot over v at) × (v.items ≡ body)

abbrev pub IsMatch : ℕ → TypedExpr → List TypedClause → Place → TypedStmt → Type 0
IsMatch own subject clauses at s =
    (e : Box TypedExpr) × (v : Vec TypedClause) × (out-TypedStmt s ≡ layer.Match own e v at) × (e.value ≡ subject) × (v.items ≡ clauses)

abbrev pub IsReturn : TypedExpr → Place → TypedStmt → Type 0
IsReturn value at s = (v : Box TypedExpr) × (out-TypedStmt s ≡ layer.Return (Some v) at) × (v.value ≡ value)

abbrev pub IsReturnNil : Place → TypedStmt → Type 0
IsReturnNil at s = out-TypedStmt s ≡ layer.Return None at

abbrev pub IsBlock : List TypedStmt → Place → TypedStmt → Type 0
IsBlock stmts at s = (v : Vec TypedStmt) × (out-TypedStmt s ≡ layer.Block v at) × (v.items ≡ stmts)

abbrev pub IsBreak : Place → TypedStmt → Type 0
IsBreak at s = out-TypedStmt s ≡ layer.Break at

abbrev pub IsContinue : Place → TypedStmt → Type 0
IsContinue at s = out-TypedStmt s ≡ layer.Continue at

abbrev pub IsClause : List TypedPattern → List TypedStmt → Place → TypedClause → Type 0
IsClause patterns stmts at c =
    ((out-TypedClause c).patterns.items ≡ patterns) × ((out-TypedClause c).stmts.items ≡ stmts) × ((out-TypedClause c).at ≡ at)

-- ---- what is updated, and what a loop goes through

abbrev pub IsMemberTarget : ℕ → Read → TypedExpr → TypedExpr → Shared → UpdateTarget → Type 0
IsMemberTarget own read container key t what =
    (c k : Box TypedExpr) × (what ≡ target.Member own read c k t) × (c.value ≡ container) × (k.value ≡ key)

abbrev pub IsRangeSource : ℕ → RangeEnd → TypedExpr → TypedExpr → Source → Type 0
IsRangeSource own end from to over = (f t : Box TypedExpr) × (over ≡ source.Range own end f t) × (f.value ≡ from) × (t.value ≡ to)

abbrev pub IsListSource : ℕ → TypedExpr → Source → Type 0
IsListSource own list over = (l : Box TypedExpr) × (over ≡ source.List own l) × (l.value ≡ list)
