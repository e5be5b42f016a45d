-- That what lowering adds to the code that is being made stands for the tree it was added for.
use Rattle.std.specs.Prelude.{◌≡◌, ◌<◌, ◌≤◌, ℕ, true, List, [], ◌∷◌, Option, Some, None, length, option_map, slice_get, ⊤}
use Rattle.operations.specs.declared.operation.Operation.TheVariants.{Tick}
use Rattle.typed_tree.specs.declared.expr.TypedExpr.{TypedExpr}
use Rattle.typed_tree.specs.declared.stmt.TypedStmt.{TypedStmt}
use Rattle.typed_tree.specs.Units.{UnitBody}
use Rattle.eval_model.specs.Tasks.{Do as DoTask}
use Rattle.eval_model.specs.TaskWalk.{TasksOver}
use Rattle.eval_model.specs.Trees.{body_tasks}
use Rattle.eval_model.specs.Walk.{ExprOver, StmtOver}
use Rattle.eval_model.specs.Ways.{Turns}
use Rattle.stack_code.specs.declared.code.Code.{Code}
use Rattle.stack_code.specs.Commands.{Command, Do, GoTo, GoToIfNot, OpenTrap, CloseTrap}
use Rattle.lower_model.specs.Lowered.{Has, Spot, Stands, code_ways, spot, turns_in}
use Rattle.lower_model.specs.Making.{Making, expr_made, firsts_made, place_of, stmt_made, units_made}

-- ---- a code has what is made

module _ (code : Code) (places : ℕ → ℕ) where
  -- the command stands there, with the places of its labels
  abbrev pub StandsFor : ℕ → Command → Type 0
  StandsFor p (Do op) = Stands code op p
  StandsFor p (GoTo l) = Has code p (GoTo (places l))
  StandsFor p (GoToIfNot l) = Has code p (GoToIfNot (places l))
  StandsFor p (OpenTrap l) = Has code p (OpenTrap (places l))
  StandsFor p CloseTrap = Has code p CloseTrap

  pub record Agrees (m : Making) : Type 0 where
    pub sound : m.sound ≡ true
    pub steps : (p : ℕ) (c : Command) → slice_get m.steps p ≡ Some c → StandsFor p c
    pub labels : (l q : ℕ) → slice_get m.labels l ≡ Some (Some q) → places l ≡ q

-- ---- what was added stands for this

-- a claim on code with the places of labels, from one point to another, both in these traps
abbrev pub Piece : Type 1
Piece = Code → (ℕ → ℕ) → List ℕ → Spot → Spot → Type 0

-- labels that were there are as they were
pub record Keeps (m n : Making) : Type 0 where
  pub more : length m.labels ≤ length n.labels
  pub labels : (l : ℕ) → l < length m.labels → slice_get n.labels l ≡ slice_get m.labels l

-- each code that has what is made now has what was made before, and what was added since
abbrev pub Says : Piece → Making → Making → Type 0
Says P m n =
    (code : Code) (places : ℕ → ℕ) → Agrees code places n →
    Agrees code places m × ((landings : List ℕ) → P code places landings (spot (length m.steps) landings) (spot (length n.steps) landings))

pub record Lays (P : Piece) (m n : Making) : Type 0 where
  pub keeps : Keeps m n
  pub says : Says P m n

abbrev pub Laid : (Making → Making) → Piece → Type 0
Laid F P = (m : Making) → Lays P m (F m)

-- ---- trees

abbrev pub ExprPiece : TypedExpr → Piece
ExprPiece e code places landings p q = ExprOver (code_ways code) e p q

-- the turns of a loop, by its labels
abbrev pub turns_of : (ℕ → ℕ) → List ℕ → Turns ℕ → Turns Spot
turns_of places landings l = turns_in landings (record { head = places l.head; exit = places l.exit })

abbrev pub StmtPiece : TypedStmt → Option (Turns ℕ) → Piece
StmtPiece s loop code places landings p q = StmtOver (code_ways code) s (option_map (turns_of places landings) loop) p q

-- from its first place on, where no trap is open, a tick and then what the body does
abbrev pub BodyAt : Code → UnitBody → ℕ → Type 0
BodyAt code body first = TasksOver (code_ways code) (DoTask Tick ∷ body_tasks body) (spot first []) None

abbrev pub BodiesAt : Code → List UnitBody → List ℕ → Type 0
BodiesAt code [] [] = ⊤
BodiesAt code (u ∷ us) (p ∷ ps) = BodyAt code u p × BodiesAt code us ps
BodiesAt code [] (p ∷ ps) = ⊥
BodiesAt code (u ∷ us) [] = ⊥

-- ---- the laws

-- what is added for an expression stands for it
abbrev pub ExpressionsAreLaid : Type 0
ExpressionsAreLaid = (e : TypedExpr) → Laid (expr_made e) (ExprPiece e)

-- and so for a statement, within a loop if there is one
abbrev pub StatementsAreLaid : Type 0
StatementsAreLaid = (s : TypedStmt) (loop : Option (Turns ℕ)) → Laid (stmt_made s loop) (StmtPiece s loop)

-- where all that was made for some units stands in a code, each of them stands at its first place
abbrev pub UnitsAreLaid : Type 0
UnitsAreLaid =
    (code : Code) (us : List UnitBody) (m : Making) → Agrees code (place_of (units_made us m)) (units_made us m) → BodiesAt code us (firsts_made us m)
