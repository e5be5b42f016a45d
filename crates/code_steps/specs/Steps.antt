-- What is answered for a step.
use Rattle.std.specs.Prelude.{◌≡◌, ◌≤◌, ◌++◌, Bool, true, false, List, Option, Some, None, length, option_map, ⊤}
use Rattle.value_model.specs.declared.value.Value.{Value}
use Rattle.op_model.specs.Common as model
use Rattle.op_model.specs.Local.{with_stack}
use Rattle.machine_model.specs.Machine as machine
use Rattle.machine_model.specs.Machine.{Frame, goes_to}
use Rattle.stack_code.specs.CodeMachine.{Standing, standing}
use Rattle.code_frames.specs.Asking.{awaits}
use Rattle.code_frames.specs.Frames.{standing_of}
use Rattle.plain_run.specs.declared.effect.Effect.{Effect}
use Rattle.plain_run.specs.declared.effect.Effect.TheVariants as effect
use Rattle.code_steps.specs.declared.held.Asking.{Asking}
use Rattle.code_steps.specs.declared.carrying.Next.{Next}
use Rattle.code_steps.specs.declared.carrying.Next.TheVariants as next
use Rattle.code_steps.specs.declared.carrying.Stepped.{Stepped}
use Rattle.code_steps.specs.declared.carrying.Stepped.TheVariants.{Did, NeedsTick, Limit, NoUnit, Stuck, Undecided}
use Rattle.code_steps.specs.declared.held.State.{State}
use Rattle.code_steps.specs.States.{call_of, state_of}

-- what a step came to, where the state is then this
abbrev pub next_of : Next → State → machine.Next Standing
next_of next.Moved s = machine.Moved (state_of s)
next_of next.Blocked s = machine.Blocked (state_of s)
next_of next.Ended s = machine.Ended (state_of s)

-- and so where something came
abbrev pub came : Option Next → State → Option (machine.Next Standing)
came n s = option_map (λ m. next_of m s) n

-- the call has the operands of the operation that it asked for
abbrev pub HasOperands : Asking → Type 0
HasOperands a = a.count ≤ length a.call.frame.local.stack.items

-- where the call stands that awaits what the operation gives
abbrev pub awaiting : Asking → Standing
awaiting a = awaits a.count (standing_of a.call.frame)

-- and its frame
abbrev pub awaiting_frame : Asking → Frame Standing
awaiting_frame a = goes_to (call_of a.call) (awaiting a)

-- it is given this
abbrev pub resumed : Standing → List Value → Standing
resumed s vs = standing s.place s.traps (with_stack s.local (vs ++ s.local.stack))

-- the list, where all are there
abbrev pub if_all : {A : Type 0} → Bool → A → Option A
if_all true xs = Some xs
if_all false xs = None

-- what was answered for what an effect made of a state, where the state is then this
abbrev pub IsCarried : Stepped → State → Option (machine.Next Standing) → Type 0
IsCarried (Did n) new c = Some (next_of n new) ≡ c
IsCarried NeedsTick new c = c ≡ Some machine.NeedsTick
IsCarried (Limit kind) new c = c ≡ Some (machine.Limit kind)
IsCarried NoUnit new c = c ≡ None
IsCarried Stuck new c = ⊥
IsCarried Undecided new c = ⊥

-- what an operation left as it was, where its effect doesn't say: `EffectStays` of what is held
abbrev pub Stays : Effect → model.Common → model.Common → Type 0
Stays (effect.Gives v) old new = ⊤
Stays (effect.Fails e) old new = ⊤
Stays (effect.Waits need) old new = new ≡ old
Stays (effect.Enters unit args) old new = ⊤
Stays (effect.Leaves v) old new = new ≡ old
Stays (effect.Spawns spawned role given) old new = ⊤
Stays effect.NoTick old new = new ≡ old
Stays (effect.Beyond limit) old new = new ≡ old

-- where the run stops at the step, it shows what was there before
abbrev pub StopsSame : Stepped → model.Common → model.Common → Type 0
StopsSame (Did n) old new = ⊤
StopsSame NeedsTick old new = new ≡ old
StopsSame (Limit kind) old new = new ≡ old
StopsSame NoUnit old new = ⊤
StopsSame Stuck old new = ⊤
StopsSame Undecided old new = ⊤
