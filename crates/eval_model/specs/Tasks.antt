-- What a frame of a typed tree keeps: what is still to be done, as parts of trees.
use Rattle.std.specs.Prelude.{ℕ, List, [], ◌∷◌, Option}
use Rattle.type_model.specs.declared.basic.SemType.{SemType}
use Rattle.operations.specs.declared.operation.Constant.{Constant}
use Rattle.operations.specs.declared.operation.Operation.{Operation}
use Rattle.typed_tree.specs.declared.expr.TypedExpr.{TypedExpr}
use Rattle.typed_tree.specs.declared.stmt.RangeEnd.{RangeEnd}
use Rattle.typed_tree.specs.declared.stmt.TypedStmt.{TypedStmt}
use Rattle.value_model.specs.declared.value.Value.{Value}
use Rattle.op_model.specs.Local.{Local}

-- a loop that has begun
pub data Loop : Type 0 where
  -- as long as the condition holds, the body
  AsLongAs : TypedExpr → List TypedStmt → Loop
  -- over a range: the end, the variable's slot, the first of the loop's own slots, and the body. The own slots keep the
  -- next int and the last one; where the end is included, a third one keeps whether one is left
  OverRange : RangeEnd → (slot own : ℕ) → List TypedStmt → Loop
  -- over a list: the own slots keep it and the index of the current item
  OverList : (slot own : ℕ) → List TypedStmt → Loop

-- a row of a match: what the subject has to be, if anything, and what is done then
pub record MatchRow : Type 0 where
  pub pattern : Option Constant
  pub body : List TypedStmt

-- a way to go on
pub data Branch : Type 0 where
  Whole : TypedExpr → Branch
  These : List Operation → Branch
  -- what a slot keeps, which here is of this type, and then these operations
  Kept : ℕ → SemType → List Operation → Branch
  Block : List TypedStmt → Branch
  -- a round of the loop, and then its next turn
  Round : Loop → Branch
  -- the first of these rows that fits what the slot keeps
  Rows : ℕ → List MatchRow → Branch

pub data Task : Type 0 where
  Eval : TypedExpr → Task
  Exec : TypedStmt → Task
  Do : Operation → Task
  -- to load a local variable, which here may be of a narrower type
  Get : ℕ → Option SemType → Task
  -- the last value says whether to go on by the first or by the second
  Choose : Branch → Branch → Task
  -- the next turn of a loop. As long as this is to be done, the loop has not ended
  Turn : Loop → Task
  -- the end of what a `trap` guards: a panic before it goes on behind it, with the error and the values that waited
  Guard : List Value → Task

-- what is to be done, the next first, and what the frame has at hand
pub record Doing : Type 0 where
  pub tasks : List Task
  pub local : Local

abbrev pub doing : Local → List Task → Doing
doing l ts = record { tasks = ts; local = l }

-- ---- these, one after another, and then what is behind them

abbrev pub evals : List TypedExpr → List Task → List Task
evals [] ts = ts
evals (e ∷ es) ts = Eval e ∷ evals es ts

abbrev pub execs : List TypedStmt → List Task → List Task
execs [] ts = ts
execs (s ∷ ss) ts = Exec s ∷ execs ss ts

abbrev pub dos : List Operation → List Task → List Task
dos [] ts = ts
dos (op ∷ ops) ts = Do op ∷ dos ops ts
