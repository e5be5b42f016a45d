-- How a run begins, part by part.
use Rattle.std.specs.Prelude.{◌≡◌, ℕ, List, [], ◌∷◌, Option, Some, None}
use Rattle.value_model.specs.declared.value.Value.{Value}
use Rattle.op_model.specs.Common.{Common}
use Rattle.machine_model.specs.Machine.{Frame, State}
use Rattle.stack_code.specs.CodeMachine.{Standing}
use Rattle.plain_run.specs.declared.held.ToRun.{ToRun}

abbrev pub to_run_of : ToRun → ℕ × List Value
to_run_of u = (u.unit, u.args.items)

-- a unit that is run with no arguments
abbrev pub alone : ℕ → ℕ × List Value
alone u = (u, [])

-- the first unit is taken off, where there is one
abbrev pub TakesFirst : Option ToRun → List (ℕ × List Value) → List (ℕ × List Value) → Type 0
TakesFirst (Some u) old new = old ≡ to_run_of u ∷ new
TakesFirst None old new = old ≡ []

abbrev pub with_units : Common → List (ℕ × List Value) → Common
with_units c us = record c { to_run = us }

-- no strand runs, and strand 0 has this frame
abbrev pub first_state : Common → Frame Standing → State Standing
first_state c f = record { common = c; frames = []; others = (f ∷ []) ∷ [] }
