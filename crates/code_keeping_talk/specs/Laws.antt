-- What steps of well-typed code keep that speak to workers, wait, or end, as laws.
use Rattle.std.specs.Prelude.{◌≡◌, ◌<◌, ℕ, List, ◌∷◌, Option, Some, None, IsTrue, false, length, slice_get}
use Rattle.operations.specs.declared.operation.Operation.TheVariants as op
use Rattle.value_model.specs.declared.filler.Filler.{Filler}
use Rattle.value_model.specs.declared.value.Value.{Value}
use Rattle.value_model.specs.Meaning.{Answers}
use Rattle.op_model.specs.Common.{Common, End, Need, Panicked, Returned, Role}
use Rattle.op_model.specs.Strands.{has_ended, met, settled, strand_blocked, strand_ended, worker_ended}
use Rattle.machine_model.specs.Keeping.{RunsOn}
use Rattle.machine_model.specs.Machine.{Frame, next_units}
use Rattle.machine_model.specs.Runs.{Picking, Running, taken_up}
use Rattle.stack_code.specs.declared.code.Code.{Code}
use Rattle.stack_code.specs.CodeMachine.{Standing, codes}
use Rattle.stack_code.specs.Frames.{AwaitsResult, IsLowest, TopFits}
use Rattle.stack_code.specs.Good.{GoodCommon, IsLater, NearlyCommon, NeedIsThere}
use Rattle.stack_code.specs.Tables.{UnitAt}
use Rattle.stack_code.specs.Values.{Fits, IsMadeError}
use Rattle.stack_code.specs.WellTyped.{WellTyped}
use Rattle.code_keeping.specs.Laws.{IsDone, OnlyOf}

-- what comes later than something that comes later comes later
abbrev pub LaterFollows : Type 0
LaterFollows = (q : Option Role) (c d e : Common) → IsLater q c d → IsLater q d e → IsLater q c e

-- where the running strand blocks for something that is there and not met, all that is shared is good, and nothing else has changed
abbrev pub BlockingKeeps : Type 0
BlockingKeeps =
    (code : Code) (c : Common) (need : Need) → GoodCommon code c Running → NeedIsThere code c need → met c need ≡ false →
    GoodCommon code (strand_blocked need c) Picking × ((q : Option Role) → IsLater q c (strand_blocked need c))

-- what held of frames, results, errors and strands holds later
abbrev pub WhatHeldHolds : Type 0
WhatHeldHolds =
    (code : Code) (c d : Common) →
    ((f : Frame Standing) → IsLater f.role c d → TopFits code c f → TopFits code d f)
    × ((f : Frame Standing) (callee : ℕ) → IsLater f.role c d → AwaitsResult code c f callee → AwaitsResult code d f callee)
    × (IsLater None c d →
    ((v : Value) (unit : ℕ) → UnitAt code unit (λ u. Fits code c v u.result) → UnitAt code unit (λ u. Fits code d v u.result))
    × ((e : Value) → IsMadeError code c e → IsMadeError code d e)
    × ((n unit : ℕ) → IsLowest code c n unit → IsLowest code d n unit)
    × ((n : ℕ) → IsTrue (has_ended c n) → IsTrue (has_ended d n))
    × ((n : ℕ) (role : Option Role) → RunsOn c n role → RunsOn d n role))

-- a panic ends a worker, or nothing: what is shared stays good, and nothing changes of any other worker
abbrev pub ClosingKeeps : Type 0
ClosingKeeps =
    (code : Code) (c : Common) (e : Value) (role : Option Role) → NearlyCommon code c Running → IsMadeError code c e →
    let d = worker_ended (Panicked e) role c in NearlyCommon code d Running × OnlyOf role c d

-- a ready strand is picked: it is there and runs, and all that is shared is good
abbrev pub PickingKeeps : Type 0
PickingKeeps =
    (code : Code) (c : Common) (place n : ℕ) → GoodCommon code c Picking → slice_get c.ready place ≡ Some n →
    (GoodCommon code (taken_up c place n) Running × ((q : Option Role) → IsLater q c (taken_up c place n))) × (n < length c.strands)

-- a strand ends with the result of its lowest frame's unit, or with a panic
abbrev pub EndOfStrand : Code → Common → End → Type 0
EndOfStrand code c (Returned v) = (unit : ℕ) × UnitAt code unit (λ u. Fits code c v u.result) × IsLowest code c c.running unit
EndOfStrand code c (Panicked e) = IsMadeError code c e

-- the running strand ends so: what is shared stays good before those who wake are ready, and it has ended
abbrev pub EndingKeeps : Type 0
EndingKeeps =
    (code : Code) (c : Common) (end : End) → WellTyped code → NearlyCommon code c Running → EndOfStrand code c end →
    let d = strand_ended end c in NearlyCommon code d Picking × ((q : Option Role) → IsLater q c d) × IsTrue (has_ended d c.running)

-- where strand 0 has more to run, its next unit begins: what is shared is good, and so is the unit's first frame
abbrev pub ContinuingKeeps : Type 0
ContinuingKeeps =
    (code : Code) (fillers : ℕ → List Filler) (c : Common) (end : End) (u : ℕ × List Value) (us : List (ℕ × List Value)) → WellTyped code → NearlyCommon code c Running → next_units c end ≡ u ∷ us →
    let d = settled (record c { to_run = us }) in GoodCommon code d Running × ((q : Option Role) → IsLater q c d)
    × ((k : Standing) → (codes fillers code).enter u.0 u.1 ≡ Some k → TopFits code d (record { unit = u.0; role = None; control = k }))
    × IsLowest code d c.running u.0

-- messages are received, and flushes and synchronous sends wait until theirs are
abbrev pub ReceivesAreDone : Answers → Type 0
ReceivesAreDone natives =
    (fillers : ℕ → List Filler) (w : ℕ) → let Done = IsDone fillers natives in
    Done (op.Receive w) × Done (op.Flush w) × Done (op.Done w)
