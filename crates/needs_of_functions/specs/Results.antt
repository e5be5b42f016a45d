-- What the workers of a function give, one after another.
use Rattle.std.specs.Prelude.{◌≡◌, ◌++◌, ℕ, List, [], ◌∷◌, All, IfOk, Option, Some, None, Result, Ok, length, map}
use Rattle.std.specs.Global.{Box}
use Rattle.bal_base.specs.declared.fault.Fault.{Fault}
use Rattle.bal_tree.specs.declared.def.FunctionDef.{FunctionDef}
use Rattle.bal_tree.specs.declared.def.Worker.{Worker}
use Rattle.bal_tree.specs.declared.types.TypeTree.{TypeTree}
use Rattle.checks.specs.Checks.{Check}
use Rattle.descriptors.specs.declared.names.Names.{Names}
use Rattle.descriptors.specs.declared.names.Scope.{Scope}
use Rattle.descriptors.specs.declared.names.Signature.{Signature}
use Rattle.typed_tree.specs.Skeleton.{events_of_body}
use Rattle.typed_tree.specs.SharedTypes.{Shared}
use Rattle.expr_needs.specs.declared.kind.Kind.TheVariants as kind
use Rattle.check_kinds.specs.Over.{ComesOver}
use Rattle.check_words.specs.Stands.{SharedBelow}
use Rattle.check_words.specs.State.{Site, State, UnitAtWork}
use Rattle.check_words.specs.Units.{AreSlots, function_unit, result_or_fault, workers_of}
use Rattle.check_words.specs.Words.{Atoms, OfKind, some_over}
use Rattle.needs_of_functions.specs.Constants.{described_as}

-- nil where nothing is said
abbrev pub type_or_nil : Names → Scope → Option (Box TypeTree) → Check State Shared
type_or_nil names scope None = some_over (λ env t. OfKind kind.Nothing env t.value)
type_or_nil names scope (Some tree) = described_as names scope tree.value

-- what the descriptor means, or its fault
abbrev pub FindsResult : Names → Scope → Option (Box TypeTree) → Atoms → Result Shared Fault → Atoms → Type 0
FindsResult names scope tree old r new = ComesOver (result_or_fault (type_or_nil names scope tree)) old (Ok r) new

-- one after another
abbrev pub ComeInTurn : Names → Scope → List Worker → Atoms → List (Result Shared Fault) → Atoms → Type 0
ComeInTurn names scope [] old [] new = new ≡ old
ComeInTurn names scope [] old (r ∷ rs) new = ⊥
ComeInTurn names scope (w ∷ ws) old [] new = ⊥
ComeInTurn names scope (w ∷ ws) old (r ∷ rs) new = (mid : Atoms) × FindsResult names scope w.result old r mid × ComeInTurn names scope ws mid rs new

abbrev pub ResultBelow : ℕ → Result Shared Fault → Type 0
ResultBelow n r = IfOk r (SharedBelow n)

-- one more, and those of some workers
pub record AddsResult (names : Names) (scope : Scope) (w : Worker) (old : Atoms) (before after : List (Result Shared Fault)) (new : Atoms) : Type 0 where
  pub found : Result Shared Fault
  pub is : after ≡ before ++ found ∷ []
  pub finds : FindsResult names scope w.result old found new
  pub below : ResultBelow (length new) found

pub record AddsResults (names : Names) (scope : Scope) (ws : List Worker) (old : Atoms) (before after : List (Result Shared Fault)) (new : Atoms) : Type 0 where
  pub found : List (Result Shared Fault)
  pub is : after ≡ before ++ found
  pub come : ComeInTurn names scope ws old found new
  pub below : All (ResultBelow (length new)) found

-- ---- functions as they begin

-- where a function stands that gives this
pub record IsFunctionSite (names : Names) (scope : Scope) (d : FunctionDef) (gives : Shared) (old : Atoms) (site : Site) (new : Atoms) : Type 0 where
  pub found : List (Result Shared Fault)
  pub come : ComeInTurn names scope (workers_of d.body) old found new
  pub below : All (ResultBelow (length new)) found
  pub is : site ≡ record { scope = scope; workers = map (λ w. w.name.name) (workers_of d.body); results = Ok gives ∷ found; events = events_of_body d.body }

abbrev pub IsFunctionUnit : Signature → Shared → UnitAtWork → Type 0
IsFunctionUnit f gives u = (slots : List Shared) × AreSlots f slots × (u ≡ function_unit f slots gives)
