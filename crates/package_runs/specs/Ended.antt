-- What became of the run of a package, and of the outside, answer by answer.
use Rattle.std.specs.Prelude.{◌≡◌, ◌⊎◌, ℕ, List, [], Option, Result, Ok, Err, length}
use Rattle.bal_base.specs.declared.stop.Stop.{Stop}
use Rattle.bal_base.specs.declared.stop.Stop.TheVariants.{Memory, Fault}
use Rattle.bal_base.specs.declared.text.Text.{Text}
use Rattle.bal_io.specs.Content.{LosesFront, Told}
use Rattle.type_model.specs.Calls.{Asked}
use Rattle.type_model.specs.declared.answers.TypeLimit.{TypeLimit}
use Rattle.type_model.specs.declared.atoms.AtomDef.{AtomDef}
use Rattle.typed_tree.specs.declared.package.TypedPackage.{TypedPackage}
use Rattle.input_calls.specs.Calls.{CallsReadln}
use Rattle.value_model.specs.declared.filler.Filler.{Filler}
use Rattle.whole_input.specs.Lines.{IsReadWhole}
use Rattle.op_model.specs.Library.{LibraryAnswers}
use Rattle.machine_model.specs.Machine.{Machine}
use Rattle.machine_model.specs.Outcomes as model
use Rattle.eval_model.specs.Tasks.{Doing}
use Rattle.eval_model.specs.Trees.{trees}
use Rattle.code_verifier.specs.LedTo.{SomePasses}
use Rattle.filler_tables.specs.Asked.{AsksFillers}
use Rattle.filler_tables.specs.Tables.{IsFillerTable}
use Rattle.code_frames.specs.Programs.{fillers_by}
use Rattle.code_steps.specs.Ended.{outcome_of}
use Rattle.code_steps.specs.declared.outcome.Outcome.{Outcome}
use Rattle.seeded_runs.specs.Runs.{IsCut, RunsTo}
use Rattle.package_runs.specs.Outside.{Outside}
use Rattle.package_runs.specs.declared.accepted.RunFault.{RunFault}
use Rattle.package_runs.specs.declared.accepted.RunFault.TheVariants as fault

-- ---- the input

module _ (p : TypedPackage) (old new : Option (List ℕ)) where
  -- the input that the program is given: none where it asks for none, and else all that was left, line by line
  pub record IsGivenInput (bytes : List ℕ) : Type 0 where
    pub none : ¬ CallsReadln p → bytes ≡ []
    pub untouched : ¬ CallsReadln p → new ≡ old
    pub whole : CallsReadln p → Told (IsReadWhole bytes) old new

  -- what is left of an input that may not have been read to its end
  pub record IsPartlyRead : Type 0 where
    pub untouched : ¬ CallsReadln p → new ≡ old
    pub part : Told LosesFront old new

-- ---- the run

module _ (atoms : List AtomDef) (p : TypedPackage) where
  -- this holds of the machine of the package's trees, over the fillers of all its atoms, and of the input that the program is given
  pub record IsRunOver (Holds : Machine Doing → List ℕ → Type 0) (old new : Option (List ℕ)) : Type 0 where
    pub table : List (List Filler)
    pub fillers : IsFillerTable atoms table
    pub rows : length table ≡ length atoms
    pub bytes : List ℕ
    pub input : IsGivenInput p old new bytes
    pub holds : Holds (trees atoms (fillers_by table) p) bytes

  module _ (words : List Text) (ticks seed : ℕ) (before after : Outside) where
    -- the run came to this outcome, and all its output was written
    abbrev pub HasRun : model.Outcome → Type 0
    HasRun o = IsRunOver (λ M bytes. RunsTo LibraryAnswers M words bytes ticks seed o before.written after.written) before.rest after.rest

    -- it was cut short, and a first part of its output was written
    abbrev pub IsCutShort : Type 0
    IsCutShort = IsRunOver (λ M bytes. IsCut LibraryAnswers M words bytes ticks seed before.written after.written) before.rest after.rest

-- it didn't begin: nothing was written, and some first part of the input may have been read
pub record IsNotBegun (p : TypedPackage) (before after : Outside) : Type 0 where
  pub nothing : after.written ≡ before.written
  pub input : IsPartlyRead p before.rest after.rest

-- a question to which the fillers lead passes the limit, and nothing was read or written
pub record IsTooLarge (passes : List AtomDef → Asked → TypeLimit → Type 0) (atoms : List AtomDef) (before after : Outside) (limit : TypeLimit) : Type 0 where
  pub asked : SomePasses passes atoms (AsksFillers atoms) limit
  pub unread : after.rest ≡ before.rest
  pub nothing : after.written ≡ before.written

-- ---- answers

-- `passes`: which questions pass a limit
module _ (passes : List AtomDef → Asked → TypeLimit → Type 0) (atoms : List AtomDef) (p : TypedPackage) where
  abbrev pub Ended : List Text → ℕ → ℕ → Outside → Outside → Result Outcome (Stop RunFault) → Type 0
  Ended words ticks seed before after (Ok o) = HasRun atoms p words ticks seed before after (outcome_of o)
  Ended words ticks seed before after (Err Memory) = IsNotBegun p before after ⊎ IsCutShort atoms p words ticks seed before after
  Ended words ticks seed before after (Err (Fault fault.Input)) = CallsReadln p × IsNotBegun p before after
  Ended words ticks seed before after (Err (Fault fault.Output)) = IsCutShort atoms p words ticks seed before after
  Ended words ticks seed before after (Err (Fault (fault.Types limit))) = IsTooLarge passes atoms before after limit
