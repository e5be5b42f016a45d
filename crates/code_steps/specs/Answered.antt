-- What is answered for a step.
use Rattle.std.specs.Prelude.{◌≡◌, ◌∷◌, ◌+◌, List, Some, None, length}
use Rattle.operations.specs.declared.operation.Operation.{Operation}
use Rattle.value_model.specs.declared.value.Value.{Value}
use Rattle.op_model.specs.Effects.{Effect}
use Rattle.op_model.specs.Library.{LibraryAnswers}
use Rattle.op_model.specs.Performs.{Performs}
use Rattle.machine_model.specs.Machine as machine
use Rattle.machine_model.specs.Machine.{Does, Frame, Machine, Step, caller, carried}
use Rattle.machine_model.specs.Runs.{next_operation}
use Rattle.stack_code.specs.CodeMachine.{Standing}
use Rattle.plain_run.specs.Held.{common_of}
use Rattle.plain_run.specs.declared.held.Common.{Common}
use Rattle.plain_operations.specs.Parts.{IsUndecided}
use Rattle.held_operations.specs.Operation.{operation_of}
use Rattle.held_operations.specs.declared.op.Op.{Op}
use Rattle.code_steps.specs.declared.carrying.Stepped.{Stepped}
use Rattle.code_steps.specs.declared.carrying.Stepped.TheVariants.{Did, NeedsTick, Limit, NoUnit, Stuck, Undecided}
use Rattle.code_frames.specs.declared.held.Program.{Program}
use Rattle.code_steps.specs.declared.held.State.{State}
use Rattle.code_frames.specs.Programs.{machine_of}
use Rattle.code_steps.specs.States.{call_of, calls_of, others_of}
use Rattle.plain_run.specs.Effects.{IsPerformed, Stays}
use Rattle.plain_run.specs.declared.effect.Performed.{Performed}
use Rattle.plain_run.specs.declared.held.Caller.{Caller as HeldCaller}
use Rattle.code_frames.specs.Frames.{standing_of}
use Rattle.code_steps.specs.declared.held.Asking.{Asking}
use Rattle.code_steps.specs.declared.held.Call.{Call}
use Rattle.code_steps.specs.Steps.{awaiting, next_of}

-- the state, with this frame over its calls
abbrev pub over : Frame Standing → State → machine.State Standing
over f s = record { common = common_of s.common; frames = f ∷ calls_of s.calls.items; others = others_of s }

-- the next operation has an effect that begins a unit which isn't there
pub record MissesUnit (M : Machine Standing) (s : machine.State Standing) : Type 0 where
  pub f : Frame Standing
  pub fs : List (Frame Standing)
  pub op : Operation
  pub vs : List Value
  pub k : Standing
  pub effect : Effect
  pub frames : s.frames ≡ f ∷ fs
  pub asks : M.look f.unit f.control ≡ Does op vs k
  pub performs : Performs M.facts LibraryAnswers op vs (caller f fs) s.common effect
  pub none : carried M s f k fs effect ≡ None

abbrev pub IsStepped : Program → machine.State Standing → Stepped → State → Type 0
IsStepped p s (Did n) new = Step LibraryAnswers (machine_of p) s (next_of n new)
IsStepped p s NeedsTick new = Step LibraryAnswers (machine_of p) s machine.NeedsTick × (common_of new.common ≡ s.common)
IsStepped p s (Limit kind) new = Step LibraryAnswers (machine_of p) s (machine.Limit kind) × (common_of new.common ≡ s.common)
IsStepped p s NoUnit new = MissesUnit (machine_of p) s
IsStepped p s Stuck new = (next : machine.Next Standing) → ¬ (Step LibraryAnswers (machine_of p) s next)
IsStepped p s Undecided new =
    (op : Op) × (vs : List Value) × (c : Common) × (next_operation (machine_of p) s.frames ≡ Some (operation_of op, vs)) × (common_of c ≡ s.common)
    × IsUndecided p.facts vs c op

-- ---- an operation that was done

-- who asks, over these calls
abbrev pub caller_over : Call → List Call → HeldCaller
caller_over call calls = record { unit = call.unit; role = call.role; depth = length calls + 1 }

-- the state, where this was shared
abbrev pub with_common : Common → State → State
with_common c s = record { common = c; calls = s.calls; others = s.others; spare = s.spare }

-- whichever operation the call asked for, when this was shared: if that came to what was done, and left the state so, the answer is that for
-- the step
abbrev pub IsFinished : Program → Asking → Performed → State → Stepped → State → Type 0
IsFinished p a done mid d new =
    (old : Common) (op : Op) (vs : List Value) →
    (machine_of p).look a.call.unit (standing_of a.call.frame) ≡ Does (operation_of op) vs (awaiting a) →
    IsPerformed p.facts (operation_of op) vs (caller_over a.call mid.calls.items) old mid.common (IsUndecided p.facts vs old op) done →
    Stays old mid.common done → old.running ≡ a.running →
    IsStepped p (over (call_of a.call) (with_common old mid)) d new
