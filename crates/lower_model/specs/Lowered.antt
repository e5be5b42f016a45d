-- Which code stands for a tree: the ways through the tree are ways through the code. A point of such a way is a place, with the
-- traps that are open there.
use Rattle.std.specs.Prelude.{◌≡◌, ◌⊎◌, ◌+◌, ℕ, Bool, true, false, List, [], ◌∷◌, Option, Some, None, length, option_map}
use Rattle.type_model.specs.declared.basic.SemType.{SemType}
use Rattle.type_model.specs.SameType.{IsSameType}
use Rattle.operations.specs.declared.operation.Operation.{Operation}
use Rattle.operations.specs.declared.operation.Operation.TheVariants.{Load, Tick, Test, Cast}
use Rattle.typed_tree.specs.declared.expr.TypedExpr.{TypedExpr}
use Rattle.typed_tree.specs.declared.stmt.TypedStmt.{TypedStmt}
use Rattle.typed_tree.specs.Units.{UnitTree}
use Rattle.eval_model.specs.Tasks.{Do as DoTask}
use Rattle.eval_model.specs.TaskWalk.{TasksOver}
use Rattle.eval_model.specs.Trees.{body_tasks}
use Rattle.eval_model.specs.Walk.{ExprOver, StmtOver}
use Rattle.eval_model.specs.Ways.{Turns, Ways}
use Rattle.stack_code.specs.declared.code.Code.{Code}
use Rattle.stack_code.specs.declared.code.Unit.{Unit as CodeUnit}
use Rattle.stack_code.specs.Commands.{Command, Do, GoTo, GoToIfNot, OpenTrap, CloseTrap, command_at}

-- the same operation, but for where a tested type lies in memory
pub data IsSameOperation : Operation → Operation → Type 0 where
  same : {op : Operation} → IsSameOperation op op
  test : {s t : SemType} → IsSameType s t → IsSameOperation (Test s) (Test t)
  cast : {s t : SemType} → IsSameType s t → IsSameOperation (Cast s) (Cast t)

-- ---- points

-- a place, and where the traps land that are open there, the innermost first
pub record Spot : Type 0 where
  pub place : ℕ
  pub landings : List ℕ

abbrev pub spot : ℕ → List ℕ → Spot
spot p landings = record { place = p; landings = landings }

-- the next place, in the same traps
abbrev pub after : Spot → Spot
after p = spot (p.place + 1) p.landings

-- the next place, in one more trap
abbrev pub inside : ℕ → Spot → Spot
inside landing p = spot (p.place + 1) (landing ∷ p.landings)

-- the turns of a loop, in these traps
abbrev pub turns_in : List ℕ → Turns ℕ → Turns Spot
turns_in landings l = record { head = spot l.head landings; exit = spot l.exit landings }

module _ (code : Code) where
  -- ---- what stands at places

  abbrev pub Has : ℕ → Command → Type 0
  Has p c = command_at code p ≡ Some c

  -- jumps alone lead from the first place to the second
  pub data Comes : ℕ → ℕ → Type 0 where
    here : {p : ℕ} → Comes p p
    by : {p q r : ℕ} → Has p (GoTo q) → Comes q r → Comes p r

  -- the operation stands there
  abbrev pub Stands : Operation → ℕ → Type 0
  Stands op p = (also : Operation) × Has p (Do also) × IsSameOperation op also

  -- ---- ways

  abbrev pub Does : Operation → Spot → Spot → Type 0
  Does op p q = Stands op p.place × (q ≡ after p)

  -- behind the load of a variable that is of a narrower type there stands a cast to that type
  abbrev pub Gets : ℕ → Option SemType → Spot → Spot → Type 0
  Gets slot None p q = Does (Load slot) p q
  Gets slot (Some t) p q = (m : Spot) × Does (Load slot) p m × Does (Cast t) m q

  -- by the last operand it goes on at the next place, or jumps
  abbrev pub Takes : Bool → Spot → Spot → Type 0
  Takes true p q = ((other : ℕ) × Has p.place (GoToIfNot other)) × (q ≡ after p)
  Takes false p q = Has p.place (GoToIfNot q.place) × (q.landings ≡ p.landings)

  -- a trap is opened that lands there
  abbrev pub Opens : ℕ → Spot → Spot → Type 0
  Opens landing p q = Has p.place (OpenTrap landing) × (q ≡ inside landing p)

  -- the trap that lands there is closed; from behind its end and from where it lands it goes on alike
  abbrev pub Closes : ℕ → Spot → Spot → Type 0
  Closes landing p q =
      Has p.place CloseTrap × (p.landings ≡ landing ∷ q.landings) × Comes (p.place + 1) q.place × Comes landing q.place

  abbrev pub code_ways : Ways Spot
  code_ways =
      record {
        comes = λ p q. Comes p.place q.place × (q.landings ≡ p.landings);
        does = Does;
        gets = Gets;
        takes = Takes;
        guards = λ p a b q. (landing : ℕ) × Opens landing p a × Closes landing b q × (q.landings ≡ p.landings);
        stops = λ p q. q.landings ≡ p.landings;
        closes = λ p q. (landing : ℕ) × Closes landing p q;
        ends = λ p. p.landings ≡ [];
        arrives = λ p q. (q ≡ p) ⊎ ((landing : ℕ) × Opens landing p q);
      }

  -- ---- trees

  -- the expression's code stands from p to before q, whatever traps are open there
  abbrev pub ExprAt : TypedExpr → ℕ → ℕ → Type 0
  ExprAt e p q = (landings : List ℕ) → ExprOver code_ways e (spot p landings) (spot q landings)

  -- the statement's code, within a loop if there is one
  abbrev pub StmtAt : TypedStmt → Option (Turns ℕ) → ℕ → ℕ → Type 0
  StmtAt s loop p q =
      (landings : List ℕ) → StmtOver code_ways s (option_map (turns_in landings) loop) (spot p landings) (spot q landings)

  -- the unit's code: from its first place on, where no trap is open, a tick and then what its body does
  pub record UnitAt (u : UnitTree) (v : CodeUnit) : Type 0 where
    pub slots : length v.slots ≡ length u.unit.slots
    pub body : TasksOver code_ways (DoTask Tick ∷ body_tasks u.body) (spot v.first []) None
