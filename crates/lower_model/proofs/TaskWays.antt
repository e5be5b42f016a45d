-- Each way through a task ends in the traps in which it begins.
use Rattle.std.proofs.Common.{◌∙◌, ℕ, ◌+◌, List, [], ◌∷◌, Option, Some, None, ap}
use Rattle.operations.specs.declared.operation.Constant.{Constant}
use Rattle.operations.specs.declared.operation.Operation.TheVariants.{Load, Store, Less, GetItem, Test}
use Rattle.typed_tree.specs.declared.stmt.RangeEnd.TheVariants.{Included, Excluded}
use Rattle.typed_tree.specs.declared.stmt.TypedStmt.{TypedStmt}
use Rattle.held_operations.specs.Operation.{singleton}
use Rattle.eval_model.specs.Loops.{raises}
use Rattle.eval_model.specs.Tasks.{Loop, AsLongAs, OverRange, OverList, MatchRow, Branch, Whole, These, Kept, Block, Round, Rows, Task, Eval, Exec, Do, Get, Choose, Turn, Guard}
use Rattle.eval_model.specs.TaskWalk.{body_of, ThenOver, RowsOver, MatchRowOver, BranchOver, TaskOver}
use Rattle.eval_model.specs.Walk.{BlockOver, PreparesOver}
use Rattle.eval_model.specs.Ways.{Turns, Ways}
use Rattle.stack_code.specs.declared.code.Code.{Code}
use Rattle.lower_model.specs.Lowered.{Spot, code_ways}
use Rattle.lower_model.proofs.CodeWays.{InSameTraps, does-stays, expr-stays, fork-stays, gets-stays, loop-stays, ops-stay, stmt-stays}

module _ (code : Code) where
  abbrev W : Ways Spot
  W = code_ways code

  abbrev Stays : Spot → Spot → Type 0
  Stays p q = InSameTraps code p q

  block-stays : (ss : List TypedStmt) (loop : Option (Turns Spot)) (p q : Spot) → BlockOver W ss loop p q → Stays p q
  block-stays [] loop p q c = c.1
  block-stays (s ∷ ss) loop p q (m, a, more) = block-stays ss loop m q more ∙ stmt-stays code s loop p m a

  then-stays : {At : Spot → Spot → Type 0} (p q : Spot) → ThenOver W At p q → ((a b : Spot) → At a b → Stays a b) → Stays p q
  then-stays p q (b, m, c, at, d) stays = d.1 ∙ stays b m at ∙ c.1

  prepares-stay : (loop : Loop) (p q : Spot) → PreparesOver W loop p q → Stays p q
  prepares-stay (AsLongAs condition body) p q c = c.1
  prepares-stay (OverRange Included slot own body) p q (m, ops, fork) =
      fork-stays code m q fork (ops-stay code (raises own)) ∙ ops-stay code (Load own ∷ Store slot ∷ Load own ∷ Load (own + 1) ∷ Less ∷ Store (own + 2) ∷ Load (own + 2) ∷ []) p m ops
  prepares-stay (OverRange Excluded slot own body) p q ops = ops-stay code (Load own ∷ Store slot ∷ raises own) p q ops
  prepares-stay (OverList slot own body) p q ops = ops-stay code (Load own ∷ Load (own + 1) ∷ GetItem ∷ Store slot ∷ []) p q ops

  -- ---- ways to go on

  row-stays : (Next : Spot → Type 0) (pattern : Option Constant) (own : ℕ) (body : List TypedStmt) (loop : Option (Turns Spot)) (p q : Spot) → MatchRowOver W pattern own body Next loop p q → Stays p q
  row-stays Next (Some c) own body loop p q (b, m, a, n, d, ops, way, block, u, rest) =
      then-stays a q block (block-stays body loop) ∙ ap (λ s. s.landings) way.1 ∙ ops-stay code (Load own ∷ Test (singleton c) ∷ []) b m ops ∙ d.1
  row-stays Next None own body loop p q block = then-stays p q block (block-stays body loop)

  rows-stay : (own : ℕ) (rs : List MatchRow) (loop : Option (Turns Spot)) (p q : Spot) → RowsOver W own rs loop p q → Stays p q
  rows-stay own [] loop p q c = c.1
  rows-stay own (r ∷ rs) loop p q at = row-stays (λ n. RowsOver W own rs loop n q) r.pattern own r.body loop p q at

  branch-stays : (b : Branch) (loop : Option (Turns Spot)) (p q : Spot) → BranchOver W b loop p q → Stays p q
  branch-stays (Whole e) loop p q at = then-stays p q at (expr-stays code e)
  branch-stays (These ops) loop p q at = then-stays p q at (ops-stay code ops)
  branch-stays (Kept slot type ops) loop p q at = then-stays p q at (λ a b (m, get, more). ops-stay code ops m b more ∙ gets-stays code slot (Some type) a m get)
  branch-stays (Block ss) loop p q at = then-stays p q at (block-stays ss loop)
  branch-stays (Round turning) loop p q (l, n, k, turns, prepares, block, c, d) =
      d.1 ∙ loop-stays code turning (λ l. BlockOver W (body_of turning) (Some l)) l turns ∙ c.1 ∙ block-stays (body_of turning) (Some l) n k block ∙ prepares-stay turning p n prepares
  branch-stays (Rows own rs) loop p q at = rows-stay own rs loop p q at

  pub task-stays : (t : Task) (loop : Option (Turns Spot)) (p q : Spot) → TaskOver W t loop p q → Stays p q
  task-stays (Eval e) loop p q at = expr-stays code e p q at
  task-stays (Exec s) loop p q at = stmt-stays code s loop p q at
  task-stays (Do op) loop p q at = does-stays code op p q at
  task-stays (Get slot narrowed) loop p q at = gets-stays code slot narrowed p q at
  task-stays (Choose x y) loop p q (a, b, way, at, u, rest) = branch-stays x loop a q at ∙ ap (λ s. s.landings) way.1
  task-stays (Turn turning) loop p q at = absurd at
  task-stays (Guard vs) loop p q at = absurd at
