-- What is added for typed trees is typed.
use Rattle.std.specs.Prelude.{ℕ, List, [], Option, None}
use Rattle.type_model.specs.declared.atoms.AtomDef.{AtomDef}
use Rattle.operations.specs.Rows.{Surroundings}
use Rattle.typed_tree.specs.declared.expr.TypedExpr.{TypedExpr}
use Rattle.typed_tree.specs.declared.stmt.TypedStmt.{TypedStmt}
use Rattle.typed_tree.specs.Units.{UnitTree}
use Rattle.eval_model.specs.Walk.{ExprOver, StmtOver}
use Rattle.eval_model.specs.Ways.{Turns}
use Rattle.tree_promises.specs.Known.{Known}
use Rattle.tree_promises.specs.Types.{Stack, type_ways}
use Rattle.tree_promises.specs.WellTyped.{WellTypedTree}
use Rattle.lower_model.specs.Making.{expr_made, stmt_made, unit_made}
use Rattle.typed_making.specs.Mapped.{Leads}
use Rattle.typed_making.specs.Wildcards.{BodyMatchesPlainly, MatchesPlainly}

-- where a way through the expression leads from these types to those, what is added for it has a map that leads so: its points are
-- those of the way
abbrev pub ExpressionsAreTyped : Type 0
ExpressionsAreTyped =
    (env : List AtomDef) (place : Surroundings) (labels : Option (Turns ℕ)) (loop : Option (Turns Stack)) (e : TypedExpr) (p q : Stack) →
    ExprOver (type_ways env place) e p q → Leads env place labels loop (expr_made e) p q

-- and so of a statement in a loop, if there is one, whose matches have no pattern behind a wildcard
abbrev pub StatementsAreTyped : Type 0
StatementsAreTyped =
    (env : List AtomDef) (place : Surroundings) (labels : Option (Turns ℕ)) (loop : Option (Turns Stack)) (s : TypedStmt) (p q : Stack) →
    StmtOver (type_ways env place) s loop p q → MatchesPlainly s → Leads env place labels loop (stmt_made s labels) p q

-- so what is added for a well-typed unit has a map that begins with no operands
abbrev pub UnitsAreTyped : Type 0
UnitsAreTyped =
    (env : List AtomDef) (place : Surroundings) (known : Known) (u : UnitTree) → WellTypedTree env place known u → BodyMatchesPlainly u.body →
    (end : Stack) × Leads env place None None (unit_made u.body) [] end
