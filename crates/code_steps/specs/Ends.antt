-- Calls that end, and the next unit of strand 0.
use Rattle.std.specs.Prelude.{◌≡◌, ◌<◌, Bool, true, false, List, [], ◌∷◌, Option, Some, None, ℕ, ⊤}
use Rattle.value_model.specs.declared.value.Value.{Value}
use Rattle.op_model.specs.Common.{Common, End, Panicked}
use Rattle.op_model.specs.Strands.{workers_ended}
use Rattle.machine_model.specs.Machine.{Frame, Machine, next_units, roles_left, unwound}
use Rattle.stack_code.specs.CodeMachine.{Standing}
use Rattle.plain_run.specs.declared.held.ToRun.{ToRun}

-- the first unit that is still to be run is taken off, where one is to be begun
abbrev pub TakesUnit : Option ToRun → Common → End → Common → Type 0
TakesUnit (Some u) old end new =
    (us : List (ℕ × List Value)) × (next_units old end ≡ (u.unit, u.args.items) ∷ us) × (new ≡ record old { to_run = us })
TakesUnit None old end new = (next_units old end ≡ []) × (new ≡ old)

-- a panic with this error has gone as far as it goes, or the calls and what is shared are those from which it goes on
abbrev pub Unwinds : Machine Standing → Value → Bool → List (Frame Standing) → Common → List (Frame Standing) → Common → Type 0
Unwinds M e true old c new d = (new ≡ unwound M e old) × (d ≡ workers_ended (Panicked e) (roles_left M e old) c)
Unwinds M e false old c new d =
    (unwound M e new ≡ unwound M e old) × (workers_ended (Panicked e) (roles_left M e new) d ≡ workers_ended (Panicked e) (roles_left M e old) c)

-- where it goes on a call has ended
abbrev pub IsShorter : Bool → ℕ → ℕ → Type 0
IsShorter true old new = ⊤
IsShorter false old new = new < old
