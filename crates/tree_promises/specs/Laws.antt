-- The laws of well-typed trees.
use Rattle.std.specs.Prelude.{Bool, List, Option}
use Rattle.bal_base.specs.declared.place.Place.{Place}
use Rattle.type_model.specs.declared.atoms.AtomDef.{AtomDef}
use Rattle.type_model.specs.declared.basic.SemType.{SemType}
use Rattle.operations.specs.Rows.{Surroundings}
use Rattle.typed_tree.specs.declared.expr.TypedExpr.{TypedExpr, out-TypedExpr}
use Rattle.typed_tree.specs.declared.stmt.TypedStmt.{TypedStmt, out-TypedStmt}
use Rattle.eval_model.specs.Walk.{ExprOver, StmtOver}
use Rattle.eval_model.specs.Ways.{AreWays, Turns, Ways}
use Rattle.tree_promises.specs.Flows.{Around, flow_ways}
use Rattle.tree_promises.specs.Known.{Flow}
use Rattle.tree_promises.specs.Layers.{ExprLayerOver, StmtLayerOver}
use Rattle.tree_promises.specs.Made.{MadeIsTyped}
use Rattle.tree_promises.specs.MadeFlows.{MadeKeepsFlow}
use Rattle.tree_promises.specs.MadeLoopFlows.{MadeLoopKeepsFlow, MadeUpdateKeepsFlow}
use Rattle.tree_promises.specs.MadeLoops.{MadeLoopIsTyped}
use Rattle.tree_promises.specs.MadeMatchFlows.{MadeMatchKeepsFlow}
use Rattle.tree_promises.specs.MadeStmtFlows.{LoopFlow, MadeBlocksKeepFlow, MadeStmtKeepsFlow}
use Rattle.tree_promises.specs.MadeStmts.{MadeStmtIsTyped, MadeStmtsAreTyped}
use Rattle.tree_promises.specs.Types.{type_ways}

-- both are ways: doing nothing goes on so, and a trap's beginning and its end are where it guards
abbrev pub TypesAreWays : Type 0
TypesAreWays = (env : List AtomDef) (place : Surroundings) → AreWays (type_ways env place)

abbrev pub FlowsAreWays : Type 0
FlowsAreWays = (env : List AtomDef) (around : Around) → AreWays (flow_ways env around)

-- a way by the layer of a tree is a way through the tree, whatever points are
module _ {Pt : Type 0} (w : Ways Pt) where
  abbrev pub ExprsGoByLayers : Type 0
  ExprsGoByLayers = (e : TypedExpr) (p q : Pt) → ExprLayerOver w (out-TypedExpr e) p q → ExprOver w e p q

  abbrev pub StmtsGoByLayers : Type 0
  StmtsGoByLayers = (s : TypedStmt) (loop : Option (Turns Pt)) (p q : Pt) → StmtLayerOver w (out-TypedStmt s) loop p q → StmtOver w s loop p q

-- expressions that are made of typed parts are typed
abbrev pub MadeExprsAreTyped : Type 0
MadeExprsAreTyped = (env : List AtomDef) (place : Surroundings) (truth : SemType) → MadeIsTyped env place truth

-- and so are statements, and statements one behind another
abbrev pub MadeStatementsAreTyped : Type 0
MadeStatementsAreTyped =
    (env : List AtomDef) (place : Surroundings) (inside : Bool) (truth : SemType) (s : TypedStmt) (at : Place)
    → MadeStmtIsTyped env place truth inside s at × MadeStmtsAreTyped env place inside

-- what an expression leaves of the flow follows from what its parts do
abbrev pub MadeExprsKeepFlows : Type 0
MadeExprsKeepFlows = (env : List AtomDef) (around : Around) (base : Option Flow) → MadeKeepsFlow env around base

-- and loops and updates of members are typed
abbrev pub MadeLoopsAreTyped : Type 0
MadeLoopsAreTyped =
    (env : List AtomDef) (place : Surroundings) (inside : Bool) (truth : SemType) (s : TypedStmt) (at : Place) → MadeLoopIsTyped env place truth inside s at

-- and so it is of statements, and of statements one behind another
abbrev pub MadeStatementsKeepFlows : Type 0
MadeStatementsKeepFlows =
    (env : List AtomDef) (around : Around) (loop : Option LoopFlow) (s : TypedStmt) (at : Place)
    → MadeStmtKeepsFlow env around loop s at × MadeBlocksKeepFlow env around loop

-- and of matches
abbrev pub MadeMatchesKeepFlows : Type 0
MadeMatchesKeepFlows =
    (env : List AtomDef) (around : Around) (loop : Option LoopFlow) (s : TypedStmt) (at : Place) → MadeMatchKeepsFlow env around loop s at

-- of loops over lists and ranges, and of assignments with an operator
abbrev pub MadeLoopsKeepFlows : Type 0
MadeLoopsKeepFlows =
    (env : List AtomDef) (around : Around) (loop : Option LoopFlow) (s : TypedStmt) (at : Place)
    → MadeLoopKeepsFlow env around loop s at × MadeUpdateKeepsFlow env around loop s at
