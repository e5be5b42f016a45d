-- What comes of a run, as the definition's words.
use Rattle.std.specs.Prelude.{ℕ, Option, Some, None}
use Rattle.op_model.specs.Common.{Common, End}
use Rattle.machine_model.specs.Outcomes as model
use Rattle.machine_model.specs.Outcomes.{ComesTo, IsEnding, IsMainEnd}
use Rattle.machine_model.specs.Runs as runs
use Rattle.machine_model.specs.Runs.{Stop}
use Rattle.code_steps.specs.declared.halts.Halt.{Halt}
use Rattle.code_steps.specs.declared.halts.Halt.TheVariants as halt
use Rattle.code_steps.specs.declared.outcome.Ending.{Ending}
use Rattle.code_steps.specs.declared.outcome.Ending.TheVariants.{ReturnsNil, ReturnsError, Panics, Stalls, GoesOn, Passes}
use Rattle.code_steps.specs.declared.outcome.Outcome.{Outcome}

abbrev pub stop_of : Halt → Stop
stop_of halt.Over = runs.Over
stop_of halt.TicksSpent = runs.TicksSpent
stop_of (halt.PastLimit limit) = runs.PastLimit limit

abbrev pub ending_of : Ending → model.Ending
ending_of ReturnsNil = model.ReturnsNil
ending_of (ReturnsError message) = model.ReturnsError message
ending_of (Panics message) = model.Panics message
ending_of (Stalls ring) = model.Stalls ring.items
ending_of GoesOn = model.GoesOn
ending_of (Passes limit) = model.Passes limit

abbrev pub outcome_of : Outcome → model.Outcome
outcome_of o = record { ending = ending_of o.ending; output = o.output.items; rest = o.rest.items; spent = o.spent; picks = o.picks }

-- the ending, where this has one
abbrev pub IsMainEnding : Common → Option End → Option Ending → Type 0
IsMainEnding c end (Some e) = IsMainEnd c end (ending_of e)
IsMainEnding c end None = (e : model.Ending) → ¬ (IsMainEnd c end e)

abbrev pub IsEndingOf : Stop → Common → Option Ending → Type 0
IsEndingOf stop c (Some e) = IsEnding stop c (ending_of e)
IsEndingOf stop c None = (e : model.Ending) → ¬ (IsEnding stop c e)

-- what comes of a run that was given so many ticks and stops so, or that nothing does
abbrev pub IsOutcome : ℕ → Stop → Common → Option Outcome → Type 0
IsOutcome ticks stop c (Some o) = ComesTo ticks stop c (outcome_of o)
IsOutcome ticks stop c None = (o : model.Outcome) → ¬ (ComesTo ticks stop c o)
