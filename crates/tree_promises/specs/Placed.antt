-- The units of a package with what is known where they begin, and what the typing rows need to know of where they stand.
use Rattle.std.specs.Prelude.{◌+◌, ◌-◌, ◌++◌, ◌==◌, ℕ, List, [], ◌∷◌, drop, find, length, map, Option, Some, None, replicate, take}
use Rattle.type_model.specs.declared.basic.BasicSet.TheVariants.{Never}
use Rattle.type_model.specs.declared.basic.SemType.{SemType, Basic}
use Rattle.operations.specs.Rows.{Signature, Surroundings}
use Rattle.typed_tree.specs.declared.expr.AnonymousFunction.{AnonymousFunction}
use Rattle.typed_tree.specs.declared.expr.TypedExpr.{TypedExpr, para-TypedExpr}
use Rattle.typed_tree.specs.declared.expr.TypedExpr.TheOpen as layer
use Rattle.typed_tree.specs.declared.package.Initial.{Initial}
use Rattle.typed_tree.specs.declared.package.Initialiser.{Initialiser}
use Rattle.typed_tree.specs.declared.package.TypedPackage.{TypedPackage}
use Rattle.typed_tree.specs.declared.stmt.Source.{Source}
use Rattle.typed_tree.specs.declared.stmt.Source.TheVariants.{Range, List as ListSource}
use Rattle.typed_tree.specs.declared.stmt.TypedStmt.{TypedStmt}
use Rattle.typed_tree.specs.declared.stmt.TypedStmt.TheOpen as stmt_layer
use Rattle.typed_tree.specs.declared.stmt.UpdateTarget.{UpdateTarget}
use Rattle.typed_tree.specs.declared.stmt.UpdateTarget.TheVariants.{Local, Variable, Member}
use Rattle.typed_tree.specs.declared.unit.TypedBody.{TypedBody}
use Rattle.typed_tree.specs.declared.unit.TypedBody.TheVariants.{Block, Expr}
use Rattle.typed_tree.specs.declared.unit.TypedFunction.{TypedFunction}
use Rattle.typed_tree.specs.declared.unit.TypedUnit.{TypedUnit}
use Rattle.typed_tree.specs.declared.unit.TypedWorker.{TypedWorker}
use Rattle.typed_tree.specs.ExprLayers.{TypedExprOf}
use Rattle.typed_tree.specs.Listed.{Listed, nothing, one, ◌&◌, if_boxed, joined, members}
use Rattle.typed_tree.specs.SharedTypes.{sem_of}
use Rattle.typed_tree.specs.StmtLayers.{TypedClauseOf, TypedStmtOf, of_typed_stmt}
use Rattle.typed_tree.specs.Units.{OfFunction, OfWorker, OfAnonymous, OfInitialiser, UnitTree}
use Rattle.op_model.specs.Levels.{numbers_from}
use Rattle.tree_promises.specs.Known.{Known}

-- A unit where it stands.
pub record Placed : Type 0 where
  pub tree : UnitTree
  -- how many of its slots hold captured variables, behind those of its parameters
  pub captured : ℕ
  -- what is known of its slots where it begins
  pub known : Known
  -- the results of the workers of its function, the default one first
  pub crew : List SemType

-- ---- what is known where units begin

abbrev pub slot_types : TypedUnit → List SemType
slot_types u = map sem_of u.slots

-- the first slots hold values of these types, of so many
abbrev pub first_known : ℕ → List SemType → Known
first_known count types = map Some types ++ replicate (count - length types) None

-- the first of these slots hold values of their declared types
abbrev pub begins_declared : ℕ → TypedUnit → Known
begins_declared held u = first_known (length u.slots) (take held (slot_types u))

-- a worker begins with what it captures, as that is narrowed there
abbrev pub begins_captured : TypedWorker → Known
begins_captured w = first_known (length w.unit.slots) (map (λ c. sem_of c.ty) w.captured)

-- ---- the units of expressions and statements

abbrev pub anonymous : AnonymousFunction → TypedExpr → Placed
anonymous f value =
    record {
      tree = record { unit = f.unit; body = OfAnonymous value };
      captured = length f.captured;
      known = begins_declared (f.unit.params + length f.captured) f.unit;
      crew = [];
    }

abbrev With : Type 0
With = TypedExpr × Listed Placed

abbrev expr_step : TypedExprOf With → Listed Placed
expr_step (layer.Strict form operands type at) = joined (map (λ e. e.1) operands.items)
expr_step (layer.Implied value type at) = nothing
expr_step (layer.Local slot narrowed type at) = nothing
expr_step (layer.And left right type at) = left.value.1 & right.value.1
expr_step (layer.Or left right type at) = left.value.1 & right.value.1
expr_step (layer.Conditional condition middle last type at) = condition.value.1 & middle.value.1 & last.value.1
expr_step (layer.Elvis own left right type at) = left.value.1 & right.value.1
expr_step (layer.Check panics own operand type at) = operand.value.1
expr_step (layer.Trap operand type at) = operand.value.1
expr_step (layer.Function function value type at) = one (anonymous function.value value.value.0) & value.value.1
expr_step (layer.Parens inner type at) = inner.value.1

abbrev pub expr_placed : TypedExpr → Listed Placed
expr_placed = para-TypedExpr (Listed Placed) expr_step

abbrev pub target_placed : UpdateTarget → Listed Placed
target_placed (Local slot narrowed type) = nothing
target_placed (Variable m) = nothing
target_placed (Member own read container key type) = expr_placed container.value & expr_placed key.value

abbrev pub source_placed : Source → Listed Placed
source_placed (Range own end from to) = expr_placed from.value & expr_placed to.value
source_placed (ListSource own list) = expr_placed list.value

abbrev stmt_step : TypedStmtOf (Listed Placed) → Listed Placed
stmt_step (stmt_layer.Set slot value at) = expr_placed value.value
stmt_step (stmt_layer.Perform form operands at) = joined (map expr_placed operands.items)
stmt_step (stmt_layer.Update target op value at) = target_placed target & expr_placed value.value
stmt_step (stmt_layer.If condition first second at) = expr_placed condition.value & joined first.items & joined second.items
stmt_step (stmt_layer.While condition body at) = expr_placed condition.value & joined body.items
stmt_step (stmt_layer.Foreach slot source body at) = source_placed source & joined body.items
stmt_step (stmt_layer.Match own subject clauses at) = expr_placed subject.value & joined clauses.items
stmt_step (stmt_layer.Return value at) = if_boxed expr_placed value
stmt_step (stmt_layer.Block stmts at) = joined stmts.items
stmt_step (stmt_layer.Break at) = nothing
stmt_step (stmt_layer.Continue at) = nothing

abbrev clause_step : TypedClauseOf (Listed Placed) → Listed Placed
clause_step c = joined c.stmts.items

abbrev pub stmts_placed : List TypedStmt → Listed Placed
stmts_placed ss = joined (map (of_typed_stmt (record { stmt = stmt_step; clause = clause_step })) ss)

-- ---- functions and packages

abbrev pub named_workers : TypedBody → List TypedWorker
named_workers (Block initial workers rest ends close) = workers.items
named_workers (Expr value) = []

-- the results of a function's workers
abbrev pub crew_of : TypedFunction → List SemType
crew_of f = sem_of f.unit.result ∷ map (λ w. sem_of w.unit.result) (named_workers f.body)

abbrev pub worker_placed : List SemType → TypedWorker → Listed Placed
worker_placed crew w =
    one (record {
      tree = record { unit = w.unit; body = OfWorker w.stmts.items w.ends };
      captured = length w.captured;
      known = begins_captured w;
      crew = crew;
    })
    & stmts_placed w.stmts.items

abbrev pub body_placed : List SemType → TypedBody → Listed Placed
body_placed crew (Block initial workers rest ends close) =
    stmts_placed initial.items & joined (map (worker_placed crew) workers.items) & stmts_placed rest.items
body_placed crew (Expr value) = expr_placed value.value

abbrev pub function_placed : TypedFunction → Listed Placed
function_placed f =
    one (record {
      tree = record { unit = f.unit; body = OfFunction f.body };
      captured = 0;
      known = begins_declared f.unit.params f.unit;
      crew = crew_of f;
    })
    & body_placed (crew_of f) f.body

abbrev pub initial_placed : Initial → Listed Placed
initial_placed i = expr_placed i.value.value

-- no slot holds a value where an initialiser begins
abbrev pub initialiser_placed : Initialiser → Listed Placed
initialiser_placed i =
    one (record {
      tree = record { unit = i.unit; body = OfInitialiser i.values.items };
      captured = 0;
      known = begins_declared 0 i.unit;
      crew = [];
    })
    & joined (map initial_placed i.values.items)

-- in the order of units_of
abbrev pub placed_units : TypedPackage → List Placed
placed_units p = members (joined (map function_placed p.functions.items) & joined (map initialiser_placed p.initialisers.items))

-- ---- where a unit's operations stand

abbrev pub signature_of : Option Placed → Signature
signature_of (Some u) =
    let unit = u.tree.unit in
    record {
      params = take unit.params (slot_types unit);
      captured = take u.captured (drop unit.params (slot_types unit));
      result = sem_of unit.result;
      arrow = unit.arrow;
      future = unit.future;
    }
signature_of None = record { params = []; captured = []; result = Basic Never; arrow = 0; future = 0 }

abbrev pub placed_at : TypedPackage → ℕ → Option Placed
placed_at p number = find (λ u. u.tree.unit.number == number) (placed_units p)

abbrev pub surroundings : TypedPackage → Placed → Surroundings
surroundings p u =
    record {
      units = map (λ n. signature_of (placed_at p n)) (numbers_from 0 p.units);
      variables = map (λ v. sem_of v.ty) p.variables.items;
      slots = slot_types u.tree.unit;
      result = sem_of u.tree.unit.result;
      workers = u.crew;
    }
