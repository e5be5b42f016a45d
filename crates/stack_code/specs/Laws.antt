-- The laws of code.
use Rattle.std.specs.Prelude.{◌≡◌, ℕ, List, Some, slice_get}
use Rattle.operations.specs.declared.library.LibraryCall.{LibraryCall}
use Rattle.operations.specs.LibraryNumbers.{number_of}
use Rattle.value_model.specs.declared.filler.Filler.{Filler}
use Rattle.value_model.specs.Meaning.{Answers}
use Rattle.machine_model.specs.Laws.{StepsOnce, RunsOnce}
use Rattle.stack_code.specs.declared.code.Code.{Code}
use Rattle.stack_code.specs.CodeMachine.{codes}
use Rattle.stack_code.specs.Commands.{library_calls}
use Rattle.stack_code.specs.WellTyped.{BreaksAt, WellTyped}

-- a state of code has at most one next one, where the natives come to one thing
abbrev pub CodeStepsOnce : Answers → Type 0
CodeStepsOnce natives = (fillers : ℕ → List Filler) (code : Code) → StepsOnce natives (codes fillers code)

-- and by an order at most one run
abbrev pub CodeRunsOnce : Answers → Type 0
CodeRunsOnce natives = (fillers : ℕ → List Filler) (code : Code) → RunsOnce natives (codes fillers code)

-- each call of the library stands in the table at its number
abbrev pub CallsStandAtNumbers : Type 0
CallsStandAtNumbers = (call : LibraryCall) → slice_get library_calls (number_of call) ≡ Some call

-- well-typed code has no place that breaks a rule
abbrev pub NoneBreaks : Type 0
NoneBreaks = (code : Code) (p : ℕ) → WellTyped code → ¬ (BreaksAt code p)
