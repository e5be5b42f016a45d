use Rattle.std.proofs.Common.{◌≡◌, false, length}
use Rattle.plain_run.specs.Held.{common_of}
use Rattle.code_frames.specs.Programs.{machine_of}
use Rattle.code_steps.specs.Ends.{Unwinds}
use Rattle.code_steps.specs.States.{calls_of, others_of}
use Rattle.code_steps.proofs.ends.unwind.Given as goal

abbrev pub invariant-loop-state : goal.invariant-loop-state
invariant-loop-state l =
    Unwinds (machine_of l.program) l.error false (calls_of l.initial.state.calls.items) (common_of l.initial.state.common) (calls_of l.state.calls.items) (common_of l.state.common)
    × (others_of l.state ≡ others_of l.initial.state)

abbrev pub decreases-loop-state : goal.decreases-loop-state
decreases-loop-state l = length l.state.calls.items
