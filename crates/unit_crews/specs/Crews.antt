-- The units of a package with how many workers their functions have: those of functions and their named workers; 0 outside of these.
use Rattle.std.specs.Prelude.{ℕ, suc, List, length, map}
use Rattle.typed_tree.specs.declared.package.TypedPackage.{TypedPackage}
use Rattle.typed_tree.specs.declared.unit.TypedFunction.{TypedFunction}
use Rattle.typed_tree.specs.declared.unit.TypedWorker.{TypedWorker}
use Rattle.typed_tree.specs.declared.unit.TypedBody.{TypedBody}
use Rattle.typed_tree.specs.declared.unit.TypedBody.TheVariants.{Block, Expr}
use Rattle.typed_tree.specs.Listed.{Listed, nothing, one, ◌&◌, joined, members}
use Rattle.typed_tree.specs.Units.{OfFunction, OfInitialiser, OfWorker, UnitTree, expr_units, initial_units, stmts_units}
use Rattle.typed_tree.specs.declared.package.Initialiser.{Initialiser}
use Rattle.tree_promises.specs.Placed.{Placed, named_workers}

pub record Crewed : Type 0 where
  pub tree : UnitTree
  -- how many workers there are, the default one among them
  pub workers : ℕ

abbrev pub crewed : Placed → Crewed
crewed u = record { tree = u.tree; workers = length u.crew }

abbrev pub crew_count : TypedBody → ℕ
crew_count body = suc (length (named_workers body))

-- units outside of functions and workers
abbrev pub alone : Listed UnitTree → Listed Crewed
alone nothing = nothing
alone (one t) = one (record { tree = t; workers = 0 })
alone (p & q) = alone p & alone q

abbrev pub worker_crewed : ℕ → TypedWorker → Listed Crewed
worker_crewed count w = one (record { tree = record { unit = w.unit; body = OfWorker w.stmts.items w.ends }; workers = count }) & alone (stmts_units w.stmts.items)

abbrev pub body_crewed : ℕ → TypedBody → Listed Crewed
body_crewed count (Block initial workers rest ends close) =
    alone (stmts_units initial.items) & joined (map (worker_crewed count) workers.items) & alone (stmts_units rest.items)
body_crewed count (Expr value) = alone (expr_units value.value)

abbrev pub function_crewed : TypedFunction → Listed Crewed
function_crewed f = one (record { tree = record { unit = f.unit; body = OfFunction f.body }; workers = crew_count f.body }) & body_crewed (crew_count f.body) f.body

abbrev pub initialiser_crewed : Initialiser → Listed Crewed
initialiser_crewed i =
    one (record { tree = record { unit = i.unit; body = OfInitialiser i.values.items }; workers = 0 }) & alone (joined (map initial_units i.values.items))

-- in the order of units_of
abbrev pub crewed_units : TypedPackage → List Crewed
crewed_units p = members (joined (map function_crewed p.functions.items) & joined (map initialiser_crewed p.initialisers.items))
