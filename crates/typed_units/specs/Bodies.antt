-- Units whose bodies are typed: there is a way through each by the types of operands.
use Rattle.std.specs.Prelude.{All, Bool, List, Some, false, slice_get, true, ◌≡◌}
use Rattle.std.specs.Global.{Box}
use Rattle.std.specs.Global.{Vec}
use Rattle.bal_base.specs.declared.place.Place.{Place}
use Rattle.eval_model.specs.Expressions.{nil_type}
use Rattle.operations.specs.Rows.{Surroundings}
use Rattle.tree_promises.specs.MadeStmts.{AreTypedStmts}
use Rattle.tree_promises.specs.Placed.{Placed}
use Rattle.tree_promises.specs.Types.{IsTypedExpr}
use Rattle.type_model.specs.Inclusion.{Sub}
use Rattle.type_model.specs.declared.atoms.AtomDef.{AtomDef}
use Rattle.type_model.specs.declared.basic.SemType.{SemType}
use Rattle.typed_needs.specs.Between.{IsTypedUnit, place_within}
use Rattle.typed_tree.specs.Exprs.{type_of}
use Rattle.typed_tree.specs.SharedTypes.{sem_of}
use Rattle.typed_tree.specs.Units.{OfFunction, OfInitialiser, OfWorker}
use Rattle.typed_tree.specs.declared.expr.TypedExpr.{TypedExpr}
use Rattle.typed_tree.specs.declared.package.Initial.{Initial}
use Rattle.typed_tree.specs.declared.stmt.TypedStmt.{TypedStmt}
use Rattle.typed_tree.specs.declared.unit.TypedBody.TheVariants.{Block, Expr}
use Rattle.typed_tree.specs.declared.unit.TypedWorker.{TypedWorker}

module _ (env : List AtomDef) (place : Surroundings) (u : Placed) where
  -- the statements of the unit are typed where it stands, outside of loops
  abbrev pub AreTypedThere : List TypedStmt → Type 0
  AreTypedThere ss = AreTypedStmts env (place_within place u) false ss

  -- what the unit gives is of its result
  abbrev pub IsResult : SemType → Type 0
  IsResult t = Sub env t (sem_of u.tree.unit.result)

  -- where the end is reached nil is a result
  abbrev pub EndsSo : Bool → Type 0
  EndsSo ends = ends ≡ true → IsResult nil_type

  -- an initial value is typed, and below the type of its variable
  pub record InitialIsTyped (i : Initial) : Type 0 where
    pub typed : IsTypedExpr env (place_within place u) i.value.value
    pub type : SemType
    pub there : slice_get place.variables i.variable ≡ Some type
    pub fits : Sub env (sem_of (type_of i.value.value)) type

  pub record BodiesMakeTyped : Type 0 where
    pub worker : (ss : List TypedStmt) (ends : Bool) → u.tree.body ≡ OfWorker ss ends → AreTypedThere ss → EndsSo ends → IsTypedUnit env place u
    pub statements : (initial : Vec TypedStmt) (workers : Vec TypedWorker) (rest : Vec TypedStmt) (ends : Bool) (close : Place)
        → u.tree.body ≡ OfFunction (Block initial workers rest ends close) → AreTypedThere initial.items → AreTypedThere rest.items → EndsSo ends → IsTypedUnit env place u
    pub value : (v : Box TypedExpr) → u.tree.body ≡ OfFunction (Expr v) → IsTypedExpr env (place_within place u) v.value → IsResult (sem_of (type_of v.value)) → IsTypedUnit env place u
    pub initialiser : (is : List Initial) → u.tree.body ≡ OfInitialiser is → All InitialIsTyped is → IsResult nil_type → IsTypedUnit env place u

abbrev pub AllBodiesMakeTyped : Type 0
AllBodiesMakeTyped = (env : List AtomDef) (place : Surroundings) (u : Placed) → BodiesMakeTyped env place u
