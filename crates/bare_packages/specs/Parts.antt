-- Parts of statements that are read as declared.
use Rattle.std.specs.Prelude.{◌≡◌, Option, Some, None}
use Rattle.std.specs.Global.{Box}
use Rattle.std.specs.List.{AllZip}
use Rattle.typed_tree.specs.declared.expr.TypedExpr.{TypedExpr}
use Rattle.typed_tree.specs.declared.stmt.TypedClause.{TypedClause, out-TypedClause}
use Rattle.declared_reads.specs.Declared.{IsBare, IsBareStmt}

-- a value that is returned, or none
abbrev pub IsBareResult : Option (Box TypedExpr) → Option (Box TypedExpr) → Type 0
IsBareResult None w = w ≡ None
IsBareResult (Some v) w = (u : Box TypedExpr) × IsBare v.value u.value × (w ≡ Some u)

-- a clause has the same patterns
abbrev pub IsBareClause : TypedClause → TypedClause → Type 0
IsBareClause c d =
    ((out-TypedClause d).patterns ≡ (out-TypedClause c).patterns) × AllZip IsBareStmt (out-TypedClause c).stmts.items (out-TypedClause d).stmts.items
