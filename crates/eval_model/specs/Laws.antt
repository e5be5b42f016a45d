-- The laws of typed trees, over any atoms, fillers and package.
use Rattle.std.specs.Prelude.{ℕ, List, ◌∷◌, Option, Some, true, false}
use Rattle.type_model.specs.declared.atoms.AtomDef.{AtomDef}
use Rattle.value_model.specs.declared.filler.Filler.{Filler}
use Rattle.value_model.specs.declared.value.Value.{Value}
use Rattle.value_model.specs.Meaning.{Answers}
use Rattle.typed_tree.specs.declared.expr.TypedExpr.{TypedExpr}
use Rattle.typed_tree.specs.declared.package.TypedPackage.{TypedPackage}
use Rattle.typed_tree.specs.declared.stmt.TypedStmt.{TypedStmt}
use Rattle.machine_model.specs.Following.{Settles}
use Rattle.machine_model.specs.Laws.{RunsOnce, StepsOnce}
use Rattle.eval_model.specs.Expressions.{eval}
use Rattle.eval_model.specs.Loops.{turn}
use Rattle.eval_model.specs.Statements.{branch, exec}
use Rattle.eval_model.specs.Tasks.{Branch, Choose, Doing, Eval, Exec, Loop, Task, Turn}
use Rattle.eval_model.specs.TaskWalk.{TasksOver}
use Rattle.eval_model.specs.Trees.{trees}
use Rattle.eval_model.specs.Walk.{ExprOver, StmtOver}
use Rattle.eval_model.specs.Ways.{AreWays, Turns, Ways, all_ways}

-- a state of trees has at most one next one, where the natives come to one thing
abbrev pub TreesStepOnce : Answers → Type 0
TreesStepOnce natives = (atoms : List AtomDef) (fillers : ℕ → List Filler) (p : TypedPackage) → StepsOnce natives (trees atoms fillers p)

-- by an order a state of trees has one run at most
abbrev pub TreesRunOnce : Answers → Type 0
TreesRunOnce natives = (atoms : List AtomDef) (fillers : ℕ → List Filler) (p : TypedPackage) → RunsOnce natives (trees atoms fillers p)

-- each frame comes by itself, in some steps, to an operation that it asks for, or to where it can do nothing
abbrev pub TreesSettle : Type 0
TreesSettle =
    (atoms : List AtomDef) (fillers : ℕ → List Filler) (p : TypedPackage) (unit : ℕ) (d : Doing) →
    Settles (trees atoms fillers p) unit d

-- ---- ways through trees agree with what a frame does

module _ {Pt : Type 0} (w : Ways Pt) where
  -- these tasks may be done from the point on, within some loop
  abbrev pub HasWay : List Task → Pt → Type 0
  HasWay ts p = (loop : Option (Turns Pt)) × TasksOver w ts p loop

  -- where an expression may be evaluated, what is to be done for it may be done; where a trap is opened, from where that is open
  abbrev pub EvalKeepsWays : Type 0
  EvalKeepsWays =
      AreWays w → (e : TypedExpr) (vs : List Value) (ts : List Task) (p : Pt) → HasWay (Eval e ∷ ts) p →
      (m a : Pt) × w.comes p m × w.arrives m a × HasWay (eval e vs ts) a

  -- and so it is of statements
  abbrev pub ExecKeepsWays : Type 0
  ExecKeepsWays =
      AreWays w → (s : TypedStmt) (ts : List Task) (p : Pt) → HasWay (Exec s ∷ ts) p →
      (m : Pt) × w.comes p m × HasWay (exec s ts) m

  -- of a choice, whichever way is taken
  abbrev pub ChoiceKeepsWays : Type 0
  ChoiceKeepsWays =
      AreWays w → (first second : Branch) (ts : List Task) (p : Pt) → HasWay (Choose first second ∷ ts) p →
      (m a b : Pt) × w.comes p m × w.takes true m a × HasWay (branch first ts) a × w.takes false m b × HasWay (branch second ts) b

  -- and of the next turn of a loop
  abbrev pub TurnKeepsWays : Type 0
  TurnKeepsWays =
      AreWays w → (turning : Loop) (ts : List Task) (p : Pt) → HasWay (Turn turning ∷ ts) p →
      (m : Pt) × w.comes p m × HasWay (turn turning ts) m

-- there is a way through each expression, and within a loop through each statement, where everything is one: no construct is left
-- without a way
abbrev pub EachTreeHasAWay : Type 0
EachTreeHasAWay =
    ((e : TypedExpr) → ExprOver all_ways e tt tt)
    × ((s : TypedStmt) → StmtOver all_ways s (Some (record { head = tt; exit = tt })) tt tt)
