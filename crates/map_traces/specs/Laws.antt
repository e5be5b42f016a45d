-- What a walk tells is what the maps of the tree say.
use Rattle.std.specs.Prelude.{◌≡◌, List, [], ◌∷◌}
use Rattle.operations.specs.Rows.{Surroundings}
use Rattle.typed_tree.specs.declared.expr.TypedExpr.{TypedExpr}
use Rattle.typed_tree.specs.declared.stmt.TypedStmt.{TypedStmt}
use Rattle.typed_tree.specs.Units.{UnitBody}
use Rattle.tree_promises.specs.Types.{Stack}
use Rattle.map_model.specs.Maps.{expr_maps, own_type, stmt_maps, unit_maps}
use Rattle.map_model.specs.Points.{PlainTypes}
use Rattle.map_traces.specs.Constructs.{known_in}
use Rattle.map_traces.specs.Trees.{expr_traced, stmt_traced, unit_traced}
use Rattle.map_traces.specs.Tracing.{Tracing, turned}

-- an expression leaves its type above the operands that wait, and has the places of its maps
abbrev pub ExpressionsAreTraced : Type 0
ExpressionsAreTraced =
    (plain : PlainTypes) (place : Surroundings) (e : TypedExpr) (s : Tracing) →
    expr_traced (known_in plain place) e s ≡ record { waiting = own_type e ∷ s.waiting; places = expr_maps plain place e (turned s.waiting) s.places }

-- a statement leaves the operands as they wait
abbrev pub StatementsAreTraced : Type 0
StatementsAreTraced =
    (plain : PlainTypes) (place : Surroundings) (st : TypedStmt) (s : Tracing) →
    stmt_traced (known_in plain place) st s ≡ record { waiting = s.waiting; places = stmt_maps plain place st (turned s.waiting) s.places }

-- a unit begins and ends with no operands
abbrev pub UnitsAreTraced : Type 0
UnitsAreTraced =
    (plain : PlainTypes) (place : Surroundings) (body : UnitBody) (places : List Stack) →
    unit_traced (known_in plain place) body (record { waiting = []; places = places }) ≡ record { waiting = []; places = unit_maps plain place body places }
