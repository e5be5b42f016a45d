-- The maps of the tree are those of the code that is added for it, where it is typed as it is written.
use Rattle.std.specs.Prelude.{◌≡◌, ◌++◌, ℕ, Bool, true, false, List, [], ◌∷◌, Option, Some, None, length}
use Rattle.bal_base.specs.declared.place.Place.{Place}
use Rattle.type_model.specs.declared.atoms.AtomDef.{AtomDef}
use Rattle.type_model.specs.Membership.{In}
use Rattle.operations.specs.declared.operation.Constant.{Constant}
use Rattle.operations.specs.Rows.{IsWithin, ResultHas, Surroundings, shape_of}
use Rattle.typed_tree.specs.declared.expr.TypedExpr.{TypedExpr, Implied}
use Rattle.typed_tree.specs.declared.package.TypedPackage.{TypedPackage}
use Rattle.typed_tree.specs.declared.stmt.TypedStmt.{TypedStmt}
use Rattle.typed_tree.specs.SharedTypes.{Shared, sem_of}
use Rattle.typed_tree.specs.Units.{UnitBody, OfAnonymous}
use Rattle.eval_model.specs.TaskWalk.{TasksOver}
use Rattle.eval_model.specs.Trees.{body_tasks}
use Rattle.eval_model.specs.Ways.{Turns}
use Rattle.lower_model.specs.Making.{expr_made, stmt_made, unit_made, unmade}
use Rattle.tree_promises.specs.Placed.{Placed, surroundings}
use Rattle.tree_promises.specs.Types.{Stack, type_ways}
use Rattle.map_model.specs.Kept.{Keeps}
use Rattle.map_model.specs.Maps.{expr_maps, own_type, stmt_maps, unit_maps}
use Rattle.map_model.specs.Marked.{LeadsBy}
use Rattle.map_model.specs.Points.{PlainTypes}
use Rattle.map_model.specs.Whole.{unit_points}
use Rattle.map_model.specs.Written.{BodyWritten, ExprWritten, StmtWritten}

-- an expression leaves its type above the operands that were there
abbrev pub ExpressionsAreMapped : Type 0
ExpressionsAreMapped =
    (plain : PlainTypes) (env : List AtomDef) (place : Surroundings) (labels : Option (Turns ℕ)) (loop : Option (Turns Stack)) (e : TypedExpr) (p : Stack) →
    ExprWritten plain env place e p → LeadsBy env place labels loop (expr_made e) (expr_maps plain place e p) p (p ++ own_type e ∷ [])

-- the labels of a loop, where there is one, and the operands at its head and behind it
abbrev pub turned : Bool → Stack → Option (Turns Stack)
turned true p = Some (record { head = p; exit = p })
turned false p = None

-- a statement leaves the operands as they were; no pattern has to be the last one of its clause
abbrev pub StatementsAreMapped : Type 0
StatementsAreMapped =
    (plain : PlainTypes) (env : List AtomDef) (place : Surroundings) (labels : Option (Turns ℕ)) (looped : Bool) (s : TypedStmt) (p : Stack) →
    StmtWritten plain env place s looped p → LeadsBy env place labels (turned looped p) (stmt_made s labels) (stmt_maps plain place s p) p p

abbrev pub UnitsAreMapped : Type 0
UnitsAreMapped =
    (plain : PlainTypes) (env : List AtomDef) (place : Surroundings) (body : UnitBody) →
    BodyWritten plain env place body → LeadsBy env place None None (unit_made body) (unit_maps plain place body) [] []

-- so there is one for each place
abbrev pub UnitsAreCounted : Type 0
UnitsAreCounted =
    (plain : PlainTypes) (env : List AtomDef) (place : Surroundings) (body : UnitBody) →
    BodyWritten plain env place body → length (unit_maps plain place body []) ≡ length (unit_made body unmade).steps

-- and a point, with numbers of messages or without
abbrev pub PlacesHavePoints : Type 0
PlacesHavePoints =
    (plain : PlainTypes) (env : List AtomDef) (p : TypedPackage) (u : Placed) →
    BodyWritten plain env (surroundings p u) u.tree.body → length (unit_points plain p u) ≡ length (unit_made u.tree.body unmade).steps

-- what waits below when an expression is evaluated, or a statement done, waits there all the time: so a trap finds what it kept
abbrev pub ExpressionsKeepOperands : Type 0
ExpressionsKeepOperands = (plain : PlainTypes) (place : Surroundings) (e : TypedExpr) (p : Stack) → Keeps p (expr_maps plain place e p)

abbrev pub StatementsKeepOperands : Type 0
StatementsKeepOperands = (plain : PlainTypes) (place : Surroundings) (s : TypedStmt) (p : Stack) → Keeps p (stmt_maps plain place s p)

-- through a unit that is typed as it is written there is a way of types, as is promised of well-typed trees
abbrev pub WrittenUnitsHaveWays : Type 0
WrittenUnitsHaveWays =
    (plain : PlainTypes) (env : List AtomDef) (place : Surroundings) (body : UnitBody) →
    BodyWritten plain env place body → TasksOver (type_ways env place) (body_tasks body) [] None

-- a worked unit: a tick, a constant and a return
abbrev pub ConstantsAreMapped : Type 0
ConstantsAreMapped =
    (plain : PlainTypes) (place : Surroundings) (c : Constant) (type : Shared) (at : Place) →
    unit_maps plain place (OfAnonymous (Implied c type at)) [] ≡ [] ∷ [] ∷ (sem_of type ∷ []) ∷ []

-- which is typed as it is written, where the constant is of its type and this is below the result
abbrev pub ConstantsAreWritten : Type 0
ConstantsAreWritten =
    (plain : PlainTypes) (env : List AtomDef) (place : Surroundings) (c : Constant) (type : Shared) (at : Place) →
    ResultHas env (Some (sem_of type)) (λ x. x ≡ shape_of c) → IsWithin env (λ x. In env x place.result) (sem_of type) →
    BodyWritten plain env place (OfAnonymous (Implied c type at))
