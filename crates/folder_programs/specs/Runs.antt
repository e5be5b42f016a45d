-- How the run of a program ends, and the status that is due of it.
use Rattle.std.specs.Prelude.{◌≡◌, ◌⊎◌, ℕ, List, Result, Ok, Err, Some}
use Rattle.bal_base.specs.declared.fault.FaultCode.TheVariants.{TypeLimit as TooLarge}
use Rattle.bal_base.specs.declared.fault.Refusal.{Refusal}
use Rattle.bal_base.specs.declared.stop.Stop.{Stop}
use Rattle.bal_base.specs.declared.stop.Stop.TheVariants.{Memory as OutOfMemory, Fault}
use Rattle.bal_base.specs.declared.text.Text.{Text}
use Rattle.bal_io.specs.Faults.{Rises}
use Rattle.bal_tree.specs.declared.package.Package.{Package}
use Rattle.descriptors.specs.Described.{Atoms}
use Rattle.input_calls.specs.Calls.{CallsReadln}
use Rattle.machine_model.specs.Outcomes as model
use Rattle.machine_model.specs.Outcomes.{Ending, ReturnsNil, ReturnsError, Panics, Stalls, Passes}
use Rattle.package_runs.specs.Ended.{HasRun, IsCutShort, IsNotBegun, IsTooLarge}
use Rattle.package_runs.specs.Outside.{NoneFailed}
use Rattle.package_runs.specs.Outside as run
use Rattle.package_runs.specs.declared.accepted.RunFault.{RunFault}
use Rattle.package_runs.specs.declared.accepted.RunFault.TheVariants as fault
use Rattle.code_steps.specs.Ended.{ending_of}
use Rattle.code_steps.specs.declared.outcome.Outcome.{Outcome}
use Rattle.type_diagrams.specs.Reach.{Passes as PassesLimit}
use Rattle.type_model.specs.declared.answers.TypeLimit.{TypeLimit}
use Rattle.typed_tree.specs.declared.package.TypedPackage.{TypedPackage}
use Rattle.status_texts.specs.Outside.{SinkTells, SourceTells}
use Rattle.type_questions.specs.Refusals.{unplaced}
use Rattle.folder_programs.specs.Refusals.{fault_of}
use Rattle.status_texts.specs.declared.status.Run.{Run}
use Rattle.status_texts.specs.declared.status.Status.{Status}
use Rattle.status_texts.specs.declared.status.Status.TheVariants.{Done, ErrorReturned, Panicked, Refused, GoesOn, Stalled, InputFault, OutFault, Memory, Limit}

-- what a run speaks of
abbrev pub sides : SourceTells → SinkTells → run.Outside
sides i o = run.outside i.faults i.rest o.faults o.written

-- the status of a run that ends so, which had so many ticks
abbrev pub status_of : ℕ → Ending → Status
status_of ticks ReturnsNil = Done
status_of ticks (ReturnsError message) = ErrorReturned message
status_of ticks (Panics message) = Panicked message
status_of ticks (Stalls ring) = Stalled ring
status_of ticks model.GoesOn = GoesOn ticks
status_of ticks (Passes limit) = Limit limit

-- a question about types, to which the program's lists lead, is too large: it has no place
abbrev pub too_large : Refusal
too_large = unplaced (fault_of TooLarge)

-- ---- causes: of the package that was built, over these atoms, with these words for main, so many ticks and this seed

module _ (atoms : Atoms) (typed : TypedPackage) (words : List Text) (ticks seed : ℕ) (before after : run.Outside) where
  -- by the picks of the seed the run came to this outcome, and all its output was written
  abbrev pub RanTo : model.Outcome → Type 0
  RanTo o = HasRun atoms typed words ticks seed before after o

  -- it was cut short, and a first part of its output was written
  abbrev pub WasCut : Type 0
  WasCut = IsCutShort atoms typed words ticks seed before after

  -- what of a run was written where nothing more is said: nothing, a first part, or all
  abbrev pub WrotePart : Type 0
  WrotePart = IsNotBegun typed before after ⊎ (WasCut ⊎ ((o : model.Outcome) × RanTo o))

  -- the run came to an outcome, which is told
  pub record CameTo (run : Run) (due : Status) : Type 0 where
    pub outcome : model.Outcome
    pub ran : RanTo outcome
    pub status : due ≡ status_of ticks outcome.ending
    pub turns : run.turns ≡ outcome.picks
    pub spent : run.spent ≡ outcome.spent
    pub fine : NoneFailed before after

  -- the input failed, which is read since the package asks for it, and nothing was written
  pub record InputFailed (due : Status) : Type 0 where
    pub status : due ≡ InputFault
    pub rises : Rises before.input_faults after.input_faults
    pub out : after.output_faults ≡ before.output_faults
    pub asks : CallsReadln typed
    pub part : IsNotBegun typed before after

  pub record OutputFailed (due : Status) : Type 0 where
    pub status : due ≡ OutFault
    pub rises : Rises before.output_faults after.output_faults
    pub input : after.input_faults ≡ before.input_faults
    pub part : WasCut

  -- a question about types to which its lists lead passes a limit, and nothing was read or written
  pub record IsTypesLimit (due : Status) : Type 0 where
    pub status : due ≡ Refused too_large
    pub limit : TypeLimit
    pub passes : IsTooLarge PassesLimit atoms before after limit
    pub fine : NoneFailed before after

  pub record NoMemoryToRun (due : Status) : Type 0 where
    pub status : due ≡ Memory
    pub part : WrotePart
    pub fine : NoneFailed before after

  abbrev pub RunEnded : Run → Status → Type 0
  RunEnded run due = CameTo run due ⊎ (InputFailed due ⊎ (OutputFailed due ⊎ (IsTypesLimit due ⊎ NoMemoryToRun due)))

-- ---- the steps

-- the status of a run that ends so, which had so many ticks, if there is memory for it
abbrev pub IsStatusOf : ℕ → Ending → Status → Type 0
IsStatusOf ticks ending status = (status ≡ status_of ticks ending) ⊎ (status ≡ Memory)

-- that of a stall in this ring
abbrev pub IsStalledBy : List ℕ → Status → Type 0
IsStalledBy strands status = (status ≡ Stalled strands) ⊎ (status ≡ Memory)

-- that of a question that is too large
abbrev pub IsLargeOr : Status → Type 0
IsLargeOr status = (status ≡ Refused too_large) ⊎ (status ≡ Memory)

-- that of a run that came to no outcome
abbrev pub IsStatusOfStop : Stop RunFault → Status → Type 0
IsStatusOfStop OutOfMemory status = status ≡ Memory
IsStatusOfStop (Fault fault.Input) status = status ≡ InputFault
IsStatusOfStop (Fault fault.Output) status = status ≡ OutFault
IsStatusOfStop (Fault (fault.Types limit)) status = IsLargeOr status

-- the run of what was built of this package, with so many ticks, by what became of it
abbrev pub IsRunOf : Package → ℕ → Result Outcome (Stop RunFault) → Run → Type 0
IsRunOf source ticks (Ok o) run =
    (run.built ≡ Some source) × IsStatusOf ticks (ending_of o.ending) run.status × (run.turns ≡ o.picks) × (run.spent ≡ o.spent)
IsRunOf source ticks (Err stop) run = (run.built ≡ Some source) × IsStatusOfStop stop run.status
