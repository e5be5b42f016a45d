-- What holds of each frame, in each state that well-typed code reaches.
use Rattle.std.specs.Prelude.{◌≡◌, ◌⊎◌, ◌<◌, ◌++◌, ◌+◌, ℕ, List, [], ◌∷◌, Option, Some, None, IsSomeAnd, IsTrue, All, get_or, is_some, length, slice_get, take, ⊤}
use Rattle.std.specs.List.{AllZip}
use Rattle.type_model.specs.declared.basic.SemType.{SemType}
use Rattle.operations.specs.declared.operation.Operation.TheVariants as op
use Rattle.value_model.specs.declared.value.Value.{Value}
use Rattle.op_model.specs.Common.{Common, Role, Activation, Channel, End}
use Rattle.op_model.specs.Strands.{activation_at, no_channel}
use Rattle.machine_model.specs.Machine.{Frame}
use Rattle.stack_code.specs.declared.code.Code.{Code}
use Rattle.stack_code.specs.declared.code.Unit.{Unit as CodeUnit}
use Rattle.stack_code.specs.CodeMachine.{Standing, OpenedTrap}
use Rattle.stack_code.specs.Commands.{Do, OpenTrap, command_at}
use Rattle.stack_code.specs.Messages.{IsBelow}
use Rattle.stack_code.specs.Places.{Tally, IsIn, IsStation, IsWorkerUnit, stack_at, tally_at, traps_at}
use Rattle.stack_code.specs.Tables.{IsInitialiser, UnitAt}
use Rattle.stack_code.specs.Values.{HeldFits, StackFits}

-- ---- workers of an activation

abbrev pub channel_in : Activation → ℕ → ℕ → Channel
channel_in x from to = get_or (get_or x.channels from []) to no_channel

abbrev pub end_in_call : Activation → ℕ → Option End
end_in_call x worker = get_or x.ends worker None

-- how many messages a worker has sent to each and received from each, of so many workers
abbrev pub HasSent : Activation → ℕ → List ℕ → Type 0
HasSent x worker sent = (w : ℕ) → w < length sent → slice_get sent w ≡ Some (channel_in x worker w).sent

abbrev pub HasReceived : Activation → ℕ → List ℕ → Type 0
HasReceived x worker received = (w : ℕ) → w < length received → slice_get received w ≡ Some (channel_in x w worker).received

-- ---- frames

-- so many first slots hold something
abbrev pub AreStored : ℕ → List (Option Value) → Type 0
AreStored count slots = All (λ held. IsTrue (is_some held)) (take count slots)

abbrev pub IsCall : Code → ℕ → Type 0
IsCall code p =
    ((unit count : ℕ) × (command_at code p ≡ Some (Do (op.Call unit count)))) ⊎ ((count : ℕ) × (command_at code p ≡ Some (Do (op.CallValue count))))

module _ (code : Code) (c : Common) where
  -- ---- slots

  -- what was stored fits; and parameters and captured values are there
  abbrev pub SlotsFit : CodeUnit → List (Option Value) → Type 0
  SlotsFit u slots = AllZip (HeldFits code c) slots u.slots × AreStored (length u.params + length u.captured) slots

  -- ---- traps

  -- an open trap is that at the place `t`: where it lands, and operands that it kept and that are still the lowest ones
  abbrev pub TrapFits : List Value → OpenedTrap → ℕ → Type 0
  TrapFits stack trap t =
      (command_at code t ≡ Some (OpenTrap trap.landing)) × StackFits code c trap.below (stack_at code t)
      × ((above : List Value) × (stack ≡ above ++ trap.below))

  -- the open traps are those in whose reach the place is
  abbrev pub TrapsFit : CodeUnit → ℕ → List Value → List OpenedTrap → Type 0
  TrapsFit u p stack traps = IsSomeAnd (traps_at code u p) (λ ts. AllZip (TrapFits stack) traps ts)

  -- ---- workers

  -- the numbers of messages at the place are those of the worker that the frame is
  abbrev pub TallyIs : Option Role → Option Tally → Type 0
  TallyIs (Some r) (Some t) = HasSent (activation_at c r.activation) r.worker t.sent × HasReceived (activation_at c r.activation) r.worker t.received
  TallyIs None None = ⊤
  TallyIs (Some r) None = ⊥
  TallyIs None (Some t) = ⊥

  -- a frame that is a worker of an activation is of the unit that its function names, and the worker has not ended; one that
  -- is none is of no worker's unit
  abbrev pub IsOfItsUnit : ℕ → Option Role → Type 0
  IsOfItsUnit unit (Some r) =
      IsSomeAnd (slice_get c.activations r.activation) (λ x. IsStation code unit (record { function = x.unit; worker = r.worker }))
      × (end_in_call (activation_at c r.activation) r.worker ≡ None)
  IsOfItsUnit unit None = ¬ (IsWorkerUnit code unit)

  -- ---- where it stands

  -- at the place of its unit it has these slots, operands and open traps
  abbrev pub StandsIn : ℕ → List (Option Value) → List Value → List OpenedTrap → CodeUnit → Type 0
  StandsIn p slots stack traps u = IsIn u p × SlotsFit u slots × TrapsFit u p stack traps

  -- what holds of each frame: its place, slots, traps, numbers and unit
  abbrev pub StandsWell : Frame Standing → Type 0
  StandsWell f =
      UnitAt code f.unit (StandsIn f.control.place f.control.local.slots f.control.local.stack f.control.traps)
      × TallyIs f.role (tally_at code f.control.place) × IsOfItsUnit f.unit f.role

  -- a frame that goes on has the operands of its place
  abbrev pub TopFits : Frame Standing → Type 0
  TopFits f = StandsWell f × StackFits code c f.control.local.stack (stack_at code f.control.place)

  -- a frame that awaits the result of this unit stands behind a call: its operands are those of the place, but for the
  -- result
  pub record AwaitsResult (f : Frame Standing) (callee : ℕ) : Type 0 where
    pub call : ℕ
    pub rest : List SemType
    pub result : SemType
    pub behind : f.control.place ≡ call + 1
    pub inside : UnitAt code f.unit (λ u. IsIn u call)
    pub is_call : IsCall code call
    pub stack : stack_at code f.control.place ≡ rest ++ result ∷ []
    pub stands : StandsWell f
    pub operands : StackFits code c f.control.local.stack rest
    pub below : UnitAt code callee (λ u. IsBelow code u.result result)

  -- the lowest frame is of the unit that the strand was made for; on strand 0 initialisers come before
  abbrev pub IsLowest : ℕ → ℕ → Type 0
  IsLowest n unit = IsSomeAnd (slice_get c.strands n) (λ s. s.unit ≡ unit) ⊎ (n ≡ 0) × IsInitialiser code unit
