-- What statements leave of the flow, by what their parts do. No trap is open where a statement begins.
use Rattle.std.specs.Prelude.{◌≡◌, ◌++◌, ℕ, List, [], ◌∷◌, Option, Some, None, slice_get}
use Rattle.std.specs.Global.{Box, Vec}
use Rattle.bal_base.specs.declared.place.Place.{Place}
use Rattle.type_model.specs.declared.atoms.AtomDef.{AtomDef}
use Rattle.type_model.specs.declared.basic.SemType.{SemType}
use Rattle.typed_tree.specs.declared.expr.TypedExpr.{TypedExpr}
use Rattle.typed_tree.specs.declared.stmt.PerformForm.{PerformForm}
use Rattle.typed_tree.specs.declared.stmt.PerformForm.TheVariants as perform
use Rattle.typed_tree.specs.declared.stmt.TypedStmt.{TypedStmt, out-TypedStmt}
use Rattle.typed_tree.specs.declared.stmt.TypedStmt.TheOpen as layer
use Rattle.held_operations.specs.Constructs.{perform_operations}
use Rattle.eval_model.specs.Walk.{BlockOver, StmtOver}
use Rattle.eval_model.specs.Ways.{Turns}
use Rattle.tree_promises.specs.Flows.{Around, flow_ways}
use Rattle.tree_promises.specs.Known.{Below, Flow, FlowBelow, Point, plain, set_in}
use Rattle.tree_promises.specs.MadeFlows.{AllKeep, LeavesFlow, OpsKeep}

-- what is known at the head of the loop around, and behind it
pub record LoopFlow : Type 0 where
  pub head : Flow
  pub exit : Flow

abbrev pub turns_of : LoopFlow → Turns Point
turns_of l = record { head = plain l.head None; exit = plain l.exit None }

abbrev pub loop_points : Option LoopFlow → Option (Turns Point)
loop_points None = None
loop_points (Some l) = Some (turns_of l)

module _ (env : List AtomDef) (around : Around) where
  -- where the first is known the statement may be done, and behind it the second is known
  abbrev pub StmtLeaves : Option LoopFlow → TypedStmt → (before behind : Flow) → Type 0
  StmtLeaves loop s before behind =
      (p q : Point) → Below env p (plain before None) → Below env (plain behind None) q → StmtOver (flow_ways env around) s (loop_points loop) p q

  abbrev pub BlockLeaves : Option LoopFlow → List TypedStmt → (before behind : Flow) → Type 0
  BlockLeaves loop ss before behind =
      (p q : Point) → Below env p (plain before None) → Below env (plain behind None) q → BlockOver (flow_ways env around) ss (loop_points loop) p q

  -- the condition leaves one flow where it holds, and another where it doesn't
  abbrev pub Condition : TypedExpr → (before behind on_true on_false : Flow) → Type 0
  Condition = LeavesFlow env around None

  -- the value is evaluated, and then this is known
  abbrev pub Value : TypedExpr → (before behind : Flow) → Type 0
  Value e f g = LeavesFlow env around None e f g g g

  pub record MadeStmtKeepsFlow (loop : Option LoopFlow) (s : TypedStmt) (at : Place) : Type 0 where
    -- a slot that is stored holds a value of its declared type
    pub set : (slot : ℕ) (value : Box TypedExpr) (f g h : Flow) (t : SemType) → out-TypedStmt s ≡ layer.Set slot value at → Value value.value f g
        → slice_get around.slots slot ≡ Some t → FlowBelow env (set_in slot t g) h → StmtLeaves loop s f h
    pub performed : (form : PerformForm) (parts : Vec TypedExpr) (f : Flow) → out-TypedStmt s ≡ layer.Perform form parts at
        → AllKeep env around None parts.items f → OpsKeep env around None (perform_operations form) f → StmtLeaves loop s f f
    -- behind a panic nothing is reached
    pub panicked : (parts : Vec TypedExpr) (f h : Flow) → out-TypedStmt s ≡ layer.Perform perform.Panic parts at
        → AllKeep env around None parts.items f → StmtLeaves loop s f h
    pub branched : (c : Box TypedExpr) (first second : Vec TypedStmt) (f g met unmet i j h : Flow) → out-TypedStmt s ≡ layer.If c first second at
        → Condition c.value f g met unmet → BlockLeaves loop first.items met i → BlockLeaves loop second.items unmet j
        → FlowBelow env i h → FlowBelow env j h → StmtLeaves loop s f h
    -- at the head is known what is known before the loop and behind its body; and behind it what is known where the condition fails, and
    -- wherever it is left
    pub repeated : (c : Box TypedExpr) (body : Vec TypedStmt) (f g met unmet i h : Flow) (l : LoopFlow) → out-TypedStmt s ≡ layer.While c body at
        → FlowBelow env f l.head → Condition c.value l.head g met unmet → BlockLeaves (Some l) body.items met i → FlowBelow env i l.head
        → FlowBelow env unmet l.exit → FlowBelow env l.exit h → StmtLeaves loop s f h
    pub returned : (value : Box TypedExpr) (f g h : Flow) → out-TypedStmt s ≡ layer.Return (Some value) at → Value value.value f g → StmtLeaves loop s f h
    pub nil_returned : (f h : Flow) → out-TypedStmt s ≡ layer.Return None at → StmtLeaves loop s f h
    pub blocked : (ss : Vec TypedStmt) (f h : Flow) → out-TypedStmt s ≡ layer.Block ss at → BlockLeaves loop ss.items f h → StmtLeaves loop s f h
    pub broken : (f h : Flow) (l : LoopFlow) → out-TypedStmt s ≡ layer.Break at → loop ≡ Some l → FlowBelow env f l.exit → StmtLeaves loop s f h
    pub continued : (f h : Flow) (l : LoopFlow) → out-TypedStmt s ≡ layer.Continue at → loop ≡ Some l → FlowBelow env f l.head → StmtLeaves loop s f h

  -- statements one behind another
  pub record MadeBlocksKeepFlow (loop : Option LoopFlow) : Type 0 where
    pub none : (f : Flow) → BlockLeaves loop [] f f
    pub one_more : (ss : List TypedStmt) (s : TypedStmt) (f g h : Flow) → BlockLeaves loop ss f g → StmtLeaves loop s g h → BlockLeaves loop (ss ++ s ∷ []) f h
