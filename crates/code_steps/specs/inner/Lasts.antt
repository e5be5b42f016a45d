-- The last call of the running strand, where it stands: what it asks for, and how it goes on.
use Rattle.std.specs.Prelude.{◌≡◌, ◌≤◌, ◌+◌, ℕ, List, [], ◌∷◌, Bool, true, false, Option, Some, None, ⊤, length, option_map}
use Rattle.value_model.specs.declared.value.Value.{Value}
use Rattle.operations.specs.declared.operation.Operation.TheVariants.{Workers}
use Rattle.op_model.specs.Local.{captures}
use Rattle.machine_model.specs.Machine as machine
use Rattle.machine_model.specs.Machine.{Does, Frame, asks, begun, goes_to}
use Rattle.stack_code.specs.CodeMachine.{Standing, standing}
use Rattle.held_operations.specs.Operation.{operation_of}
use Rattle.held_operations.specs.declared.op.Op.{Op}
use Rattle.plain_operations.specs.Parts.{IsUndecided}
use Rattle.plain_run.specs.Effects as effects
use Rattle.plain_run.specs.Effects.{IsPerformed}
use Rattle.plain_run.specs.Held.{caller_of}
use Rattle.plain_run.specs.declared.effect.Effect.{Effect}
use Rattle.plain_run.specs.declared.effect.Performed.{Performed}
use Rattle.plain_run.specs.declared.effect.Performed.TheVariants.{Done}
use Rattle.plain_run.specs.declared.held.Caller.{Caller as HeldCaller}
use Rattle.plain_run.specs.declared.held.Common.{Common}
use Rattle.code_frames.specs.Asking.{Stays, ask_of, awaits, last_values}
use Rattle.code_frames.specs.Programs.{captured_in, machine_of}
use Rattle.code_frames.specs.declared.frame.Asked.{Asked}
use Rattle.code_frames.specs.declared.frame.Asked.TheVariants as asked
use Rattle.code_frames.specs.declared.held.Program.{Program}
use Rattle.code_steps.specs.Answered.{IsStepped, with_common}
use Rattle.code_steps.specs.States.{call_of, calls_of, state_of}
use Rattle.code_steps.specs.Steps.{resumed}
use Rattle.code_steps.specs.declared.carrying.Stepped.{Stepped}
use Rattle.code_steps.specs.declared.held.Call.{Call}
use Rattle.code_steps.specs.declared.held.State.{State}

-- so many values wait in the last of these calls
abbrev pub EnoughLast : ℕ → List (Frame Standing) → Type 0
EnoughLast n [] = ⊥
EnoughLast n (f ∷ fs) = n ≤ length f.control.local.stack

-- those of them that it asks with, the first one first
abbrev pub values_last : ℕ → List (Frame Standing) → List Value
values_last n [] = []
values_last n (f ∷ fs) = last_values n f.control.local

-- these are gone, and it stands at the next place
abbrev pub awaiting_last : ℕ → List (Frame Standing) → List (Frame Standing)
awaiting_last n [] = []
awaiting_last n (f ∷ fs) = goes_to f (awaits n f.control) ∷ fs

-- and it is given this
abbrev pub given_last : ℕ → List Value → List (Frame Standing) → List (Frame Standing)
given_last n vs [] = []
given_last n vs (f ∷ fs) = goes_to f (resumed (awaits n f.control) vs) ∷ fs

-- so many values wait, where an operation is asked for
abbrev pub Enough : Asked → Standing → Type 0
Enough asked.On s = ⊤
Enough (asked.Does op n) s = n ≤ length s.local.stack
Enough asked.Captures s = ⊤
Enough asked.Stuck s = ⊤

module _ (p : Program) where
  -- what the last of these calls is about to do, where they then are so
  abbrev pub LooksLast : Asked → List (Frame Standing) → List (Frame Standing) → Type 0
  LooksLast a [] new = a ≡ asked.Stuck
  LooksLast a (f ∷ fs) new =
      (now : Standing) × (new ≡ goes_to f now ∷ fs)
      × ((machine_of p).look f.unit f.control ≡ ask_of (captured_in p.units.items f.unit) a now)
      × Stays a f.control now × Enough a now

  -- it asks for the operation on so many values that wait in it
  abbrev pub AsksLast : Op → ℕ → List (Frame Standing) → Type 0
  AsksLast op n [] = ⊥
  AsksLast op n (f ∷ fs) =
      ((machine_of p).look f.unit f.control ≡ Does (operation_of op) (last_values n f.control.local) (awaits n f.control))
      × (n ≤ length f.control.local.stack)

  -- what was answered for the operation on them
  abbrev pub IsDoneFor : Op → ℕ → List (Frame Standing) → Common → Common → Performed → Type 0
  IsDoneFor op n [] old new done = ⊤
  IsDoneFor op n (f ∷ fs) old new done =
      (caller : HeldCaller) × (caller_of caller ≡ machine.caller f fs)
      × IsPerformed p.facts (operation_of op) (last_values n f.control.local) caller old new
      (IsUndecided p.facts (last_values n f.control.local) old op) done

  -- the first frame of a call of the unit with them, where there is such a unit
  abbrev pub IsBegunFor : ℕ → ℕ → List (Frame Standing) → Option Call → Type 0
  IsBegunFor unit n calls g = option_map call_of g ≡ begun (machine_of p) unit (values_last n calls) None

  -- it was begun over the last one, which awaits what it gives; or there is none
  abbrev pub EntersLast : ℕ → ℕ → List (Frame Standing) → Bool → List (Frame Standing) → Type 0
  EntersLast unit n old true new =
      (g : Frame Standing) × (begun (machine_of p) unit (values_last n old) None ≡ Some g) × (new ≡ g ∷ awaiting_last n old)
  EntersLast unit n old false new = begun (machine_of p) unit (values_last n old) None ≡ None

  -- it asks for the start of its unit's named workers
  abbrev pub CapturesLast : List (Frame Standing) → Type 0
  CapturesLast [] = ⊥
  CapturesLast (f ∷ fs) =
      (machine_of p).look f.unit f.control
      ≡ asks (standing (f.control.place + 1) f.control.traps) (captures Workers f.control.local (captured_in p.units.items f.unit) [])

  -- whichever operation the last call asked for, when this was shared and this ran: if that had the effect, the answer is that for the step
  abbrev pub StepsFor : ℕ → ℕ → Effect → State → Stepped → State → Type 0
  StepsFor n running effect mid d new =
      (op : Op) (old : Common) →
      AsksLast op n (calls_of mid.calls.items) → IsDoneFor op n (calls_of mid.calls.items) old mid.common (Done effect) →
      effects.Stays old mid.common (Done effect) → old.running ≡ running → IsStepped p (state_of (with_common old mid)) d new
