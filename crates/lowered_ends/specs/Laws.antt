-- The laws of packages that don't wait for ever.
use Rattle.std.specs.Prelude.{◌≡◌, ◌≢◌, ◌<◌, ℕ, true, List, [], length}
use Rattle.bal_base.specs.declared.text.Text.{Text}
use Rattle.type_model.specs.declared.answers.TypeLimit.{TypeLimit}
use Rattle.type_model.specs.declared.atoms.AtomDef.{AtomDef}
use Rattle.type_model.specs.Calls.{Asked}
use Rattle.typed_tree.specs.declared.package.TypedPackage.{TypedPackage}
use Rattle.value_model.specs.declared.filler.Filler.{Filler}
use Rattle.value_model.specs.Meaning.{Answers}
use Rattle.op_model.specs.Strands.{has_ended}
use Rattle.machine_model.specs.Machine.{Machine, State}
use Rattle.machine_model.specs.Outcomes.{Outcome, IsAllowed, Stalls}
use Rattle.machine_model.specs.Runs.{AreWords, IsReached, Picking}
use Rattle.eval_model.specs.Narrowed.{NarrowsWell}
use Rattle.eval_model.specs.Trees.{trees}
use Rattle.worker_waits.specs.Planned.{ArePlanned}
use Rattle.worker_waits.specs.Waiting.{NeverRings, NeverStalls}
use Rattle.stack_code.specs.declared.code.Code.{Code}
use Rattle.stack_code.specs.CodeMachine.{codes}
use Rattle.stack_code.specs.WellTyped.{WellTyped}
use Rattle.lower_model.specs.Whole.{IsLowered}
use Rattle.code_keeping_all.specs.Laws.{FillersAreKnown, LibraryIsDone}
use Rattle.lowered_ends.specs.Starting.{HasNoStart, WaitsAreNamed}

-- each function of the package has a plan, and its code is lowered from it and is well typed; the rest is what the laws of packages
-- and of code ask for: waits name no default worker, narrowed variables hold what they have to, the fillers are those of the code, and
-- calls of the library are done
pub record IsKept (passes : List AtomDef → Asked → TypeLimit → Type 0) (natives : Answers) (atoms : List AtomDef) (fillers : ℕ → List Filler) (p : TypedPackage) (code : Code) : Type 0 where
  pub planned : ArePlanned passes p
  pub waits : WaitsAreNamed p
  pub lowered : IsLowered atoms p code
  pub narrows : NarrowsWell natives atoms fillers p
  pub typed : WellTyped code
  pub knows : FillersAreKnown fillers code
  pub library : LibraryIsDone fillers natives code

-- ---- of a machine

-- whenever no strand is ready to be picked, each strand has ended
abbrev pub AllEnd : Answers → {C : Type 0} → Machine C → Type 0
AllEnd natives {C} M =
    (words : List Text) (input : List ℕ) (ticks : ℕ) (s : State C) → AreWords words →
    IsReached natives M words input ticks Picking s → s.common.ready ≡ [] → (n : ℕ) → n < length s.common.strands → has_ended s.common n ≡ true

-- no run comes to a stall, under any order
abbrev pub NoStalls : Answers → {C : Type 0} → Machine C → Type 0
NoStalls natives M =
    (words : List Text) (input order : List ℕ) (ticks n : ℕ) (o : Outcome) (ring : List ℕ) → AreWords words →
    IsAllowed natives M words input order ticks n o → o.ending ≢ Stalls ring

-- ---- of packages and their code

module _ (passes : List AtomDef → Asked → TypeLimit → Type 0) (natives : Answers) where
  -- what is kept
  abbrev pub OfKept : ((atoms : List AtomDef) → (ℕ → List Filler) → TypedPackage → Code → Type 0) → Type 0
  OfKept P =
      (atoms : List AtomDef) (fillers : ℕ → List Filler) (p : TypedPackage) (code : Code) → IsKept passes natives atoms fillers p code → P atoms fillers p code

  -- no workers of an activation wait for one another, at no time
  abbrev pub KeptNeverRings : Type 0
  KeptNeverRings = OfKept (λ atoms fillers p code. NeverRings natives (trees atoms fillers p) × NeverRings natives (codes fillers code))

  -- and without `start` main has ended whenever no strand is ready
  abbrev pub KeptNeverStalls : Type 0
  KeptNeverStalls =
      OfKept (λ atoms fillers p code. HasNoStart p → NeverStalls natives (trees atoms fillers p) × NeverStalls natives (codes fillers code))

  -- and so have all strands
  abbrev pub KeptAllEnd : Type 0
  KeptAllEnd = OfKept (λ atoms fillers p code. HasNoStart p → AllEnd natives (trees atoms fillers p) × AllEnd natives (codes fillers code))

  -- so nothing that may come of it is a stall
  abbrev pub KeptHasNoStalls : Type 0
  KeptHasNoStalls = OfKept (λ atoms fillers p code. HasNoStart p → NoStalls natives (trees atoms fillers p) × NoStalls natives (codes fillers code))
