-- What statements leave of the flow, by what their parts leave: whatever is known before them and behind them.
use Rattle.std.specs.Prelude.{Bool, List, None, Option, Some, [], slice_get, ℕ, ◌∷◌, ◌≡◌}
use Rattle.bal_base.specs.declared.place.Place.{Place}
use Rattle.bal_base.specs.declared.text.Name.{Name}
use Rattle.bal_tree.specs.declared.name.QualifiedName.{QualifiedName}
use Rattle.check_words.specs.Seen.{SeenVariable}
use Rattle.check_words.specs.State.{AreLast, BlockAtWork, IsLast, State}
use Rattle.descriptors.specs.declared.names.Names.{Names}
use Rattle.expr_needs.specs.Needs.{Assigns, Breaks, Continues, Declares, MakesBlock, MakesIf, MakesWhile, Performs, Returns, ReturnsNil, Stores}
use Rattle.flow_narrowing.specs.declared.flow.Variable.{Variable}
use Rattle.operations.specs.Rows.{Surroundings}
use Rattle.tree_promises.specs.Flows.{Around}
use Rattle.tree_promises.specs.Known.{Flow, FlowBelow, set_in}
use Rattle.tree_promises.specs.MadeFlows.{AllKeep, KeepsFlow}
use Rattle.tree_promises.specs.MadeStmtFlows.{BlockLeaves, Condition, LoopFlow, StmtLeaves, Value}
use Rattle.type_model.specs.Calls.{Asked}
use Rattle.type_model.specs.declared.answers.TypeLimit.{TypeLimit}
use Rattle.type_model.specs.declared.atoms.AtomDef.{AtomDef}
use Rattle.typed_needs.specs.Pieces.{IsMet}
use Rattle.typed_needs.specs.Placing.{AreStored, IsPlaced}
use Rattle.typed_stmts.specs.Adding.{AddsStmt}
use Rattle.typed_stmts.specs.Assigned.{Sees}
use Rattle.typed_tree.specs.SharedTypes.{Shared, sem_of}
use Rattle.typed_tree.specs.declared.expr.TypedExpr.{TypedExpr}
use Rattle.typed_tree.specs.declared.stmt.PerformForm.TheVariants as perform
use Rattle.typed_tree.specs.declared.stmt.PerformForm.{PerformForm}
use Rattle.typed_tree.specs.declared.stmt.TypedStmt.{TypedStmt}

module _ (passes : List AtomDef → Asked → TypeLimit → Type 0) (names : Names) (env : List AtomDef) (place : Surroundings) (around : Around) (loop : Option LoopFlow) where
  -- where the first is known the statement may be done, and behind it the second is known
  abbrev pub AddsLeaving : Flow → Flow → List BlockAtWork → State → State → Type 0
  AddsLeaving before behind = AddsStmt (λ s. StmtLeaves env around loop s before behind)

  abbrev pub Leaves : List TypedStmt → Flow → Flow → Type 0
  Leaves = BlockLeaves env around loop

  -- ---- what changes nothing

  abbrev pub EvaluationKeeps : PerformForm → Type 0
  EvaluationKeeps form =
      (at : Place) (old new : State) (e : TypedExpr) (f : Flow) → IsMet passes names env (Performs form 1 at) old new → IsLast old.found e → KeepsFlow env around None e f
      → AddsLeaving f f [] old new

  abbrev pub StoreKeeps : Type 0
  StoreKeeps =
      (at : Place) (old new : State) (parts : List TypedExpr) (f : Flow) → IsMet passes names env (Stores at) old new → AreLast old.found 3 parts
      → AllKeep env around None parts f → AddsLeaving f f [] old new

  -- ---- ends of ways: behind them whatever may be known

  abbrev pub PanicEnds : Type 0
  PanicEnds =
      (at : Place) (old new : State) (e : TypedExpr) (f h : Flow) → IsMet passes names env (Performs perform.Panic 1 at) old new → IsLast old.found e
      → KeepsFlow env around None e f → AddsLeaving f h [] old new

  abbrev pub ReturnEnds : Type 0
  ReturnEnds =
      (at : Place) (old new : State) (e : TypedExpr) (f g h : Flow) → IsMet passes names env (Returns at) old new → IsLast old.found e → Value env around e f g
      → AddsLeaving f h [] old new

  abbrev pub NilReturnEnds : Type 0
  NilReturnEnds = (at : Place) (old new : State) (f h : Flow) → IsMet passes names env (ReturnsNil at) old new → AddsLeaving f h [] old new

  abbrev pub BreakEnds : Type 0
  BreakEnds =
      (at : Place) (old new : State) (f h : Flow) (l : LoopFlow) → IsMet passes names env (Breaks at) old new → loop ≡ Some l → FlowBelow env f l.exit
      → AddsLeaving f h [] old new

  abbrev pub ContinueEnds : Type 0
  ContinueEnds =
      (at : Place) (old new : State) (f h : Flow) (l : LoopFlow) → IsMet passes names env (Continues at) old new → loop ≡ Some l → FlowBelow env f l.head
      → AddsLeaving f h [] old new

  -- ---- variables: their slots hold values of their declared types

  abbrev pub DeclarationLeaves : Type 0
  DeclarationLeaves =
      (name : Name) (final assigned : Bool) (at : Place) (old new : State) (e : TypedExpr) (f g h : Flow) → IsMet passes names env (Declares name final assigned at) old new
      → IsLast old.found e → Value env around e f g → IsPlaced place new → around.slots ≡ place.slots
      → ((slot : ℕ) (t : Shared) → IsLast old.wants (Some t) → slice_get place.slots slot ≡ Some (sem_of t) → FlowBelow env (set_in slot (sem_of t) g) h)
      → AddsLeaving f h [] old new

  abbrev pub AssignmentLeaves : Type 0
  AssignmentLeaves =
      (q : QualifiedName) (at : Place) (old new : State) (e : TypedExpr) (v : Variable) (f g h : Flow) → IsMet passes names env (Assigns q at) old new
      → IsLast old.found e → Sees names old q (SeenVariable v) → AreStored place old → around.slots ≡ place.slots → Value env around e f g
      → FlowBelow env (set_in v.slot (sem_of v.declared) g) h → AddsLeaving f h [] old new

  -- ---- blocks

  abbrev pub BlockLeavesAll : Type 0
  BlockLeavesAll =
      (at : Place) (old new : State) (b : BlockAtWork) (f h : Flow) → IsMet passes names env (MakesBlock at) old new → IsLast old.blocks b → Leaves b.stmts f h
      → AddsLeaving f h (b ∷ []) old new

  abbrev pub BranchLeaves : Type 0
  BranchLeaves =
      (at : Place) (old new : State) (c : TypedExpr) (a b : BlockAtWork) (f g met unmet i j h : Flow) → IsMet passes names env (MakesIf at) old new → IsLast old.found c
      → Condition env around c f g met unmet → AreLast old.blocks 2 (a ∷ b ∷ []) → Leaves a.stmts met i → Leaves b.stmts unmet j → FlowBelow env i h → FlowBelow env j h
      → AddsLeaving f h (a ∷ b ∷ []) old new

  -- at the head of a loop is known what is known before it and behind its body
  abbrev pub LoopLeaves : Type 0
  LoopLeaves =
      (leaves : Bool) (at : Place) (old new : State) (c : TypedExpr) (b : BlockAtWork) (f g met unmet i h : Flow) (l : LoopFlow)
      → IsMet passes names env (MakesWhile leaves at) old new → IsLast old.found c → IsLast old.blocks b → FlowBelow env f l.head → Condition env around c l.head g met unmet
      → BlockLeaves env around (Some l) b.stmts met i → FlowBelow env i l.head → FlowBelow env unmet l.exit → FlowBelow env l.exit h → AddsLeaving f h (b ∷ []) old new

  pub record StatementsLeave : Type 0 where
    pub ignored : EvaluationKeeps perform.Ignore
    pub evaluated : EvaluationKeeps perform.Evaluate
    pub stored : StoreKeeps
    pub panics : PanicEnds
    pub returned : ReturnEnds
    pub nil_returned : NilReturnEnds
    pub broken : BreakEnds
    pub continued : ContinueEnds
    pub declared : DeclarationLeaves
    pub assigned : AssignmentLeaves
    pub blocks : BlockLeavesAll
    pub branches : BranchLeaves
    pub loops : LoopLeaves

abbrev pub TheseStatementsLeave : (List AtomDef → Asked → TypeLimit → Type 0) → Type 0
TheseStatementsLeave passes =
    (names : Names) (env : List AtomDef) (place : Surroundings) (around : Around) (loop : Option LoopFlow) → StatementsLeave passes names env place around loop
