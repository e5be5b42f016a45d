-- What a match leaves of the flow: each pattern that is tested narrows what is kept, and the variable that holds the same (Ballerina
-- specification, "Match statement").
use Rattle.std.specs.Prelude.{◌≡◌, ℕ, Bool, List, [], ◌∷◌, Option, Some, None, slice_get, slice_set, ⊤}
use Rattle.std.specs.Global.{Box, Vec}
use Rattle.bal_base.specs.declared.place.Place.{Place}
use Rattle.type_model.specs.declared.atoms.AtomDef.{AtomDef}
use Rattle.type_model.specs.declared.basic.SemType.{SemType}
use Rattle.operations.specs.declared.operation.Constant.{Constant}
use Rattle.typed_tree.specs.declared.expr.TypedExpr.{TypedExpr}
use Rattle.typed_tree.specs.declared.stmt.TypedClause.{TypedClause, out-TypedClause}
use Rattle.typed_tree.specs.declared.stmt.TypedPattern.{TypedPattern}
use Rattle.typed_tree.specs.declared.stmt.TypedStmt.{TypedStmt, out-TypedStmt}
use Rattle.typed_tree.specs.declared.stmt.TypedStmt.TheOpen as layer
use Rattle.typed_tree.specs.SharedTypes.{Shared, sem_of}
use Rattle.typed_tree.specs.Views.{IsLocal}
use Rattle.held_operations.specs.Operation.{singleton}
use Rattle.tree_promises.specs.Flows.{Around, LeavesFalse, LeavesTrue}
use Rattle.tree_promises.specs.Known.{Flow, FlowBelow, Known, narrowed, with_twin}
use Rattle.tree_promises.specs.MadeFlows.{IsKnown}
use Rattle.tree_promises.specs.MadeStmtFlows.{BlockLeaves, LoopFlow, StmtLeaves, Value}

module _ (env : List AtomDef) (around : Around) (loop : Option LoopFlow) where
  -- no way leads to these clauses; behind them this is known
  abbrev pub ClausesNowhere : List TypedClause → Flow → Type 0
  ClausesNowhere [] behind = ⊤
  ClausesNowhere (c ∷ cs) behind =
      (m : Flow) × BlockLeaves env around loop (out-TypedClause c).stmts.items None m × FlowBelow env m behind × ClausesNowhere cs behind

  -- `slots`: that which keeps the value, and the one that holds the same
  module _ (slots : List ℕ) where
    -- What is left is of this type. A pattern with a constant narrows it, where it fits for the clause and else for the next pattern; one
    -- without takes all that is left, and then no way leads on.
    abbrev pub PatternLeaves : Option Constant → Known → SemType → Flow → (Known → SemType → Type 0) → Type 0 → Type 0
    PatternLeaves (Some c) known left body next nowhere =
        (holds fails : SemType) × LeavesTrue env left (singleton c) holds × LeavesFalse env left (singleton c) fails
        × FlowBelow env (Some (narrowed slots holds known)) body × next (narrowed slots fails known) fails
    PatternLeaves None known left body next nowhere = FlowBelow env (Some known) body × nowhere

    abbrev pub PatternsLeave : List TypedPattern → Known → SemType → Flow → (Known → SemType → Type 0) → Type 0 → Type 0
    PatternsLeave [] known left body next nowhere = next known left
    PatternsLeave (p ∷ ps) known left body next nowhere =
        PatternLeaves p.value known left body (λ k l. PatternsLeave ps k l body next nowhere) nowhere

    -- the ways of all clauses, and the one on which none is taken, meet where this is known
    abbrev pub ClausesLeave : List TypedClause → Known → SemType → Flow → Type 0
    ClausesLeave [] known left behind = FlowBelow env (Some known) behind
    ClausesLeave (c ∷ cs) known left behind =
        (body m : Flow)
        × PatternsLeave (out-TypedClause c).patterns.items known left body (λ k l. ClausesLeave cs k l behind) (ClausesNowhere cs behind)
        × BlockLeaves env around loop (out-TypedClause c).stmts.items body m × FlowBelow env m behind

  pub record MadeMatchKeepsFlow (s : TypedStmt) (at : Place) : Type 0 where
    -- on a variable
    pub on_variable : (own slot : ℕ) (narrow : Bool) (u : Shared) (here : Place) (subject : Box TypedExpr) (clauses : Vec TypedClause) (ks : Known)
        (k : Option SemType) (t : SemType) (h : Flow) → out-TypedStmt s ≡ layer.Match own subject clauses at → IsLocal slot narrow u here subject.value
        → IsKnown env around slot narrow (sem_of u) (Some ks) → slice_get around.slots own ≡ Some t → slice_get ks own ≡ Some k
        → ClausesLeave (with_twin own (Some (own, slot))) clauses.items (slice_set ks own (Some t)) t h → StmtLeaves env around loop s (Some ks) h
    -- on any other value
    pub on_value : (own : ℕ) (subject : Box TypedExpr) (clauses : Vec TypedClause) (f : Flow) (ks : Known) (k : Option SemType) (t : SemType) (h : Flow)
        → out-TypedStmt s ≡ layer.Match own subject clauses at → Value env around subject.value f (Some ks)
        → slice_get around.slots own ≡ Some t → slice_get ks own ≡ Some k
        → ClausesLeave (with_twin own None) clauses.items (slice_set ks own (Some t)) t h → StmtLeaves env around loop s f h
    -- where no way leads behind the value
    pub nowhere : (own : ℕ) (subject : Box TypedExpr) (clauses : Vec TypedClause) (f : Flow) (t : SemType) (h : Flow)
        → out-TypedStmt s ≡ layer.Match own subject clauses at → Value env around subject.value f None → slice_get around.slots own ≡ Some t
        → ClausesNowhere clauses.items h → StmtLeaves env around loop s f h
