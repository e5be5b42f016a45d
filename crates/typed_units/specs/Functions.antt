-- Bodies of functions: all needs of one come to a function whose unit is typed, and so are the units of the anonymous functions in it.
use Rattle.std.specs.Prelude.{All, List, ◌++◌, ◌≡◌}
use Rattle.bal_tree.specs.declared.def.FunctionDef.{FunctionDef}
use Rattle.check_laws.specs.StmtLaws.{HasUnit}
use Rattle.check_words.specs.State.{BlockAtWork, IsLast, MatchAtWork, State, UnitAtWork}
use Rattle.descriptors.specs.declared.names.Names.{Names}
use Rattle.operations.specs.Rows.{Surroundings}
use Rattle.tree_promises.specs.Placed.{Placed, begins_declared, crew_of, expr_placed, function_placed}
use Rattle.type_model.specs.Calls.{Asked}
use Rattle.type_model.specs.declared.answers.TypeLimit.{TypeLimit}
use Rattle.type_model.specs.declared.atoms.AtomDef.{AtomDef}
use Rattle.typed_blocks.specs.Actions.{actions_in_stmts}
use Rattle.typed_bodies.specs.Units.{units_of_clauses, units_of_stmts}
use Rattle.typed_exprs.specs.Lines.{Run}
use Rattle.typed_needs.specs.Between.{IsKept, IsTypedUnit, IsUnitAt, place_within, units_in}
use Rattle.typed_needs.specs.Items.{AreFirst}
use Rattle.typed_needs.specs.Placing.{AreNamed}
use Rattle.typed_needs.specs.Waits.{AreResults}
use Rattle.typed_stmts.specs.Assigned.{TakeValues}
use Rattle.typed_tree.specs.Units.{OfFunction}
use Rattle.typed_tree.specs.declared.unit.TypedBody.TheVariants.{Block, Expr}
use Rattle.typed_tree.specs.declared.unit.TypedBody.{TypedBody}
use Rattle.typed_tree.specs.declared.unit.TypedFunction.{TypedFunction}
use Rattle.typed_units.specs.Peers.{ActsOnPeers}
use Rattle.bal_tree.specs.declared.action.Rhs.{Rhs}
use Rattle.bal_tree.specs.declared.def.Body.TheVariants as body
use Rattle.bal_tree.specs.declared.def.Body.{Body}
use Rattle.stmt_needs.specs.PackageTable.{body_needs}
use Rattle.typed_tree.specs.Listed.{Listed, members, nothing, ◌&◌}

-- its own unit, as it is placed
abbrev pub unit_of_function : TypedFunction → Placed
unit_of_function f =
    record { tree = record { unit = f.unit; body = OfFunction f.body }; captured = 0; known = begins_declared f.unit.params f.unit; crew = crew_of f }

-- the units in a body, but for those of its workers
abbrev pub units_in_body : TypedBody → List Placed
units_in_body (Block initial workers rest ends close) = units_of_stmts initial.items ++ units_of_stmts rest.items
units_in_body (Expr value) = members (expr_placed value.value)

-- what stands behind `=` or `return` in the default worker's statements
abbrev pub actions_in_body : Body → Listed Rhs
actions_in_body (body.Block initial workers rest close at) = actions_in_stmts initial.items & actions_in_stmts rest.items
actions_in_body (body.Expr value at) = nothing

module _ (passes : List AtomDef → Asked → TypeLimit → Type 0) (names : Names) (env : List AtomDef) (place : Surroundings) where
  abbrev pub inside_of : TypedFunction → Surroundings
  inside_of f = place_within place (unit_of_function f)

  -- what there is at the end of a function is the first part of what there is at the end of all
  pub record HasFunctions (s : State) : Type 0 where
    pub first : AreFirst env s.atoms
    pub parts : All (IsUnitAt place) (units_in s.found)
    pub blocks : All (λ (b : BlockAtWork). All (IsUnitAt place) (units_of_stmts b.stmts)) s.blocks
    pub matches : All (λ (m : MatchAtWork). All (IsUnitAt place) (units_of_clauses m.clauses)) s.matches
    pub functions : All (λ f. All (IsUnitAt place) (members (function_placed f))) s.done.functions

  -- a function is made last: its unit is typed, and so are those in its body, but for those of its workers
  pub record ComesToFunction (new : State) : Type 0 where
    pub function : TypedFunction
    pub last : IsLast new.done.functions function
    pub own : IsTypedUnit env place (unit_of_function function)
    pub units : All (IsTypedUnit env place) (units_in_body function.body)

  -- Where its own unit is at hand, with its variables in its slots, what its workers give is what they are told to give, and each action of the default worker is of another one.
  abbrev pub BodyIsTyped : Type 0
  BodyIsTyped =
      (d : FunctionDef) (b : Body) (old new : State) → HasUnit old → Run passes names env (body_needs d b) old new → HasFunctions new
      → ((f : TypedFunction) → IsLast new.done.functions f → IsKept (inside_of f) old × AreResults env (inside_of f) old.site.results)
      → ((u : UnitAtWork) → IsLast old.units u → u.worker ≡ 0) → All (ActsOnPeers old.site.workers 0) (members (actions_in_body b)) → ComesToFunction new

-- where the place has the package's variables and functions
abbrev pub AllBodiesAreTyped : (List AtomDef → Asked → TypeLimit → Type 0) → Type 0
AllBodiesAreTyped passes =
    (names : Names) (env : List AtomDef) (place : Surroundings) → AreNamed env names place → TakeValues env names place → BodyIsTyped passes names env place
