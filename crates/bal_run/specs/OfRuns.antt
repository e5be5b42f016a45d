-- What a call of the top says of a program that is run: single facts, each cause with its status and each status with its cause. A
-- cause comes to its status, unless the diagnostics fail or memory runs out.
use Rattle.std.specs.Prelude.{◌≡◌, ◌<◌, ◌⊎◌, ℕ, List}
use Rattle.bal_base.specs.declared.fault.Refusal.{Refusal}
use Rattle.bal_base.specs.declared.text.Text.{Text}
use Rattle.bal_io.specs.Faults.{Rises}
use Rattle.descriptors.specs.Described.{Atoms}
use Rattle.machine_model.specs.Outcomes.{Ending, Outcome}
use Rattle.folder_programs.specs.declared.compiling.Built.{Built}
use Rattle.status_texts.specs.declared.status.Run.{Run}
use Rattle.status_texts.specs.declared.status.Status.TheVariants.{Refused, InputFault, OutFault, Memory}
use Rattle.bal_run.specs.OfBuilds.{BuildIsTold, IfBuilt, OfBuilt}
use Rattle.status_texts.specs.Outside.{Outside}
use Rattle.folder_programs.specs.Runs.{sides, IsTypesLimit, InputFailed, OutputFailed, RanTo, WrotePart, status_of, too_large}
use Rattle.status_texts.specs.Report.{ComesTo}

-- the run of what was built, by these words for main, so many ticks and this seed
module _ (words : List Text) (ticks seed : ℕ) (before after : Outside) (run : Run) where
  -- it ended so, and its counts are told
  abbrev pub EndedSo : Ending → Atoms → Built → Type 0
  EndedSo ending atoms built =
      (o : Outcome) × RanTo atoms built.typed words ticks seed (sides before.input before.out) (sides after.input after.out) o
      × (o.ending ≡ ending) × (run.turns ≡ o.picks) × (run.spent ≡ o.spent)

  -- it ended, and the status of that comes; or its lists lead to a question that is too large, and that is told; or memory ran out
  abbrev pub IsEndTold : Atoms → Built → Type 0
  IsEndTold atoms built =
      ((ending : Ending) × EndedSo ending atoms built × ComesTo (status_of ticks ending) run.status)
      ⊎ (ComesTo (Refused too_large) run.status ⊎ (run.status ≡ Memory))

  abbrev pub WroteOfRun : Atoms → Built → Type 0
  WroteOfRun atoms built = WrotePart atoms built.typed words ticks seed (sides before.input before.out) (sides after.input after.out)

  abbrev pub FailedInInput : Atoms → Built → Type 0
  FailedInInput atoms built =
      InputFailed atoms built.typed words ticks seed (sides before.input before.out) (sides after.input after.out) InputFault

  abbrev pub FailedInOutput : Atoms → Built → Type 0
  FailedInOutput atoms built =
      OutputFailed atoms built.typed words ticks seed (sides before.input before.out) (sides after.input after.out) OutFault

  -- it is refused so since its lists lead to a question that is too large
  abbrev pub RefusedLate : Refusal → Atoms → Built → Type 0
  RefusedLate r atoms built =
      IsTypesLimit atoms built.typed words ticks seed (sides before.input before.out) (sides after.input after.out) (Refused r)

  -- so it is refused of the package that is kept
  abbrev pub IsRefusedLate : Refusal → Type 0
  IsRefusedLate r = OfBuilt before.folder.files run.built (RefusedLate r)

pub record RunIsTold (words : List Text) (ticks seed : ℕ) (before after : Outside) (run : Run) : Type 0 where
  -- what was built, or why nothing was
  pub builds : BuildIsTold (IsRefusedLate words ticks seed before after run) before after run
  -- what of its run was written
  pub built : IfBuilt before.folder.files run.built (WroteOfRun words ticks seed before after run)
  -- how its run ended
  pub ended : (ending : Ending) → run.status ≡ status_of ticks ending
      → OfBuilt before.folder.files run.built (EndedSo words ticks seed before after run ending)
  pub end_due :
      ¬ (Rises before.input.faults after.input.faults) → ¬ (Rises before.out.faults after.out.faults)
      → IfBuilt before.folder.files run.built (IsEndTold words ticks seed before after run)
  -- the input or the output failed
  pub input_fault : run.status ≡ InputFault → OfBuilt before.folder.files run.built (FailedInInput words ticks seed before after run)
  pub input_due : before.input.faults < after.input.faults → ComesTo InputFault run.status
  pub out_fault : run.status ≡ OutFault → OfBuilt before.folder.files run.built (FailedInOutput words ticks seed before after run)
  pub out_due : before.out.faults < after.out.faults → ComesTo OutFault run.status
