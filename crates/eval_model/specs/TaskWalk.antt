-- The ways through what a frame of a tree still has to do.
use Rattle.std.specs.Prelude.{◌≡◌, ℕ, List, [], ◌∷◌, Option, Some, None, true, false}
use Rattle.operations.specs.declared.operation.Constant.{Constant}
use Rattle.operations.specs.declared.operation.Operation.TheVariants.{Load, Test}
use Rattle.typed_tree.specs.declared.stmt.TypedStmt.{TypedStmt}
use Rattle.held_operations.specs.Operation.{singleton}
use Rattle.eval_model.specs.Tasks.{Loop, AsLongAs, OverRange, OverList, MatchRow, Branch, Whole, These, Kept, Block, Round, Rows, Task, Eval, Exec, Do, Get, Choose, Turn, Guard}
use Rattle.eval_model.specs.Walk.{OpsOver, KeptOver, ExprOver, StmtOver, BlockOver, PreparesOver, LoopOver}
use Rattle.eval_model.specs.Ways.{Ways, Turns}

abbrev pub body_of : Loop → List TypedStmt
body_of (AsLongAs condition body) = body
body_of (OverRange end slot own body) = body
body_of (OverList slot own body) = body

module _ {Pt : Type 0} (w : Ways Pt) where
  abbrev pub ThenOver : (Pt → Pt → Type 0) → Pt → Pt → Type 0
  ThenOver At p q = (b m : Pt) × w.comes p b × At b m × w.comes m q

  abbrev pub TurnsOver : Loop → Turns Pt → Type 0
  TurnsOver loop l = LoopOver w loop (λ l. BlockOver w (body_of loop) (Some l)) l

  -- a round that begins at p
  abbrev pub RoundOver : Loop → Pt → Pt → Type 0
  RoundOver loop p q =
      (l : Turns Pt) × (n k : Pt) × TurnsOver loop l × PreparesOver w loop p n × BlockOver w (body_of loop) (Some l) n k × w.comes k l.head × w.comes l.exit q

  abbrev pub MatchRowOver : Option Constant → ℕ → List TypedStmt → (Pt → Type 0) → Option (Turns Pt) → Pt → Pt → Type 0
  MatchRowOver (Some c) own body Next loop p q =
      (b m a n : Pt) × w.comes p b × OpsOver w (Load own ∷ Test (singleton c) ∷ []) b m
      × w.takes true m a × ThenOver (BlockOver w body loop) a q × w.takes false m n × Next n
  MatchRowOver None own body Next loop p q = ThenOver (BlockOver w body loop) p q

  abbrev pub RowsOver : ℕ → List MatchRow → Option (Turns Pt) → Pt → Pt → Type 0
  RowsOver own [] loop p q = w.comes p q
  RowsOver own (r ∷ more) loop p q = MatchRowOver r.pattern own r.body (λ n. RowsOver own more loop n q) loop p q

  abbrev pub BranchOver : Branch → Option (Turns Pt) → Pt → Pt → Type 0
  BranchOver (Whole e) loop p q = ThenOver (ExprOver w e) p q
  BranchOver (These ops) loop p q = ThenOver (OpsOver w ops) p q
  BranchOver (Kept slot type ops) loop p q = ThenOver (KeptOver w slot type ops) p q
  BranchOver (Block ss) loop p q = ThenOver (BlockOver w ss loop) p q
  BranchOver (Round inner) loop p q = RoundOver inner p q
  BranchOver (Rows own rs) loop p q = RowsOver own rs loop p q

  abbrev pub ChoiceOver : Branch → Branch → Option (Turns Pt) → Pt → Pt → Type 0
  ChoiceOver x y loop p q = (a b : Pt) × w.takes true p a × BranchOver x loop a q × w.takes false p b × BranchOver y loop b q

  abbrev pub TaskOver : Task → Option (Turns Pt) → Pt → Pt → Type 0
  TaskOver (Eval e) loop p q = ExprOver w e p q
  TaskOver (Exec s) loop p q = StmtOver w s loop p q
  TaskOver (Do op) loop p q = w.does op p q
  TaskOver (Get slot narrowed) loop p q = w.gets slot narrowed p q
  TaskOver (Choose x y) loop p q = ChoiceOver x y loop p q
  TaskOver (Turn loop') loop p q = ⊥
  TaskOver (Guard vs) loop p q = ⊥

  -- from the point on these tasks may be done, one behind another, within this loop
  abbrev pub TasksOver : List Task → Pt → Option (Turns Pt) → Type 0
  TasksOver [] p loop = (loop ≡ None) × w.ends p
  TasksOver (Turn turning ∷ ts) p loop =
      (l : Turns Pt) × (outer : Option (Turns Pt)) × (loop ≡ Some l) × w.comes p l.head × TurnsOver turning l × TasksOver ts l.exit outer
  TasksOver (Guard vs ∷ ts) p loop = (m q : Pt) × (outer : Option (Turns Pt)) × (loop ≡ None) × w.comes p m × w.closes m q × TasksOver ts q outer
  TasksOver (t ∷ ts) p loop = (m q : Pt) × w.comes p m × TaskOver t loop m q × TasksOver ts q loop
