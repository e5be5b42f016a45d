-- Packages without `start`, and those that wait for named workers and futures alone.
use Rattle.std.specs.Prelude.{◌≡◌, ◌≢◌, ◌⊎◌, ℕ, List, [], Contains, None, Some, ⊤}
use Rattle.operations.specs.declared.operation.Operation.{Operation}
use Rattle.operations.specs.declared.operation.Operation.TheVariants.{Start, StartValue}
use Rattle.operations.specs.Talk.{Talk, Sends, Receives, Flushes, StartsWorkers, AwaitsWorkers, NoTalk, talk_of}
use Rattle.typed_tree.specs.declared.package.TypedPackage.{TypedPackage}
use Rattle.typed_tree.specs.Units.{UnitTree, unit_at}
use Rattle.eval_model.specs.TaskWalk.{TasksOver}
use Rattle.eval_model.specs.Trees.{body_tasks}
use Rattle.eval_model.specs.Ways.{Ways}

-- a `start` of a function, or of a function value
abbrev pub IsStart : Operation → Type 0
IsStart op = ((unit count : ℕ) × (op ≡ Start unit count)) ⊎ ((count : ℕ) × (op ≡ StartValue count))

-- the workers for whose ends it waits
abbrev pub awaited_ends : Talk → List ℕ
awaited_ends (Sends w) = []
awaited_ends (Receives w) = []
awaited_ends (Flushes w) = []
awaited_ends StartsWorkers = []
awaited_ends (AwaitsWorkers ws) = ws
awaited_ends NoTalk = []

abbrev pub StartsNone : Operation → Type 0
StartsNone op = ¬ (IsStart op)

-- it waits for the ends of named workers alone: the default worker, which is 0, has no name by which to wait for it ("Wait action")
abbrev pub AwaitsNamed : Operation → Type 0
AwaitsNamed op = (w : ℕ) → Contains (awaited_ends (talk_of op)) w → w ≢ 0

-- points tell nothing: there is such a way through a tree where each operation that may be done on it is one of these
abbrev pub only : (Operation → Type 0) → Ways (Unit {0})
only P =
    record {
      comes = λ p q. ⊤;
      does = λ op p q. P op;
      gets = λ slot narrowed p q. ⊤;
      takes = λ way p q. ⊤;
      guards = λ p a b q. ⊤;
      stops = λ p q. ⊤;
      closes = λ b q. ⊤;
      ends = λ p. ⊤;
      arrives = λ p a. ⊤;
    }

-- each function, worker and initialiser of the package does only such operations
abbrev pub DoesOnly : (Operation → Type 0) → TypedPackage → Type 0
DoesOnly P p = (n : ℕ) (u : UnitTree) → unit_at p n ≡ Some u → TasksOver (only P) (body_tasks u.body) tt None

abbrev pub HasNoStart : TypedPackage → Type 0
HasNoStart = DoesOnly StartsNone

abbrev pub WaitsAreNamed : TypedPackage → Type 0
WaitsAreNamed = DoesOnly AwaitsNamed
