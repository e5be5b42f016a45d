-- The laws of workers of code that wait.
use Rattle.std.specs.Prelude.{ℕ, List}
use Rattle.bal_base.specs.declared.text.Text.{Text}
use Rattle.type_model.specs.declared.answers.TypeLimit.{TypeLimit}
use Rattle.type_model.specs.declared.atoms.AtomDef.{AtomDef}
use Rattle.type_model.specs.Calls.{Asked}
use Rattle.typed_tree.specs.declared.package.TypedPackage.{TypedPackage}
use Rattle.value_model.specs.declared.filler.Filler.{Filler}
use Rattle.value_model.specs.Meaning.{Answers}
use Rattle.machine_model.specs.Machine.{State}
use Rattle.machine_model.specs.Runs.{AreWords, IsReached, Phase}
use Rattle.machine_model.specs.Strands.{StrandsHold}
use Rattle.eval_model.specs.Narrowed.{NarrowsWell}
use Rattle.worker_waits.specs.Planned.{ArePlanned}
use Rattle.worker_waits.specs.Waiting.{NeverRings}
use Rattle.stack_code.specs.declared.code.Code.{Code}
use Rattle.stack_code.specs.CodeMachine.{Standing, codes}
use Rattle.lower_model.specs.Whole.{IsLowered}

-- the code is lowered from a package in which each function has a plan, and whose narrowed variables hold what they have to
pub record IsLoweredPlan (passes : List AtomDef → Asked → TypeLimit → Type 0) (natives : Answers) (fillers : ℕ → List Filler) (code : Code) : Type 0 where
  pub atoms : List AtomDef
  pub tree : TypedPackage
  pub planned : ArePlanned passes tree
  pub lowered : IsLowered atoms tree code
  pub narrows : NarrowsWell natives atoms fillers tree

-- no workers of an activation of it wait for one another, at no time
abbrev pub LoweredNeverRings : (List AtomDef → Asked → TypeLimit → Type 0) → Answers → Type 0
LoweredNeverRings passes natives =
    (fillers : ℕ → List Filler) (code : Code) → IsLoweredPlan passes natives fillers code → NeverRings natives (codes fillers code)

-- and what holds of strands, workers and the ready list of machines holds of each state that it reaches
abbrev pub LoweredHolds : (List AtomDef → Asked → TypeLimit → Type 0) → Answers → Type 0
LoweredHolds passes natives =
    (fillers : ℕ → List Filler) (code : Code) → IsLoweredPlan passes natives fillers code →
    (words : List Text) (input : List ℕ) (ticks : ℕ) (phase : Phase) (s : State Standing) → AreWords words →
    IsReached natives (codes fillers code) words input ticks phase s → StrandsHold natives (codes fillers code) phase s
