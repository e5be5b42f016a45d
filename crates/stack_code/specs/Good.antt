-- What holds of each state that well-typed code reaches.
use Rattle.std.specs.Prelude.{◌≡◌, ◌≢◌, ◌⊎◌, ◌<◌, ℕ, List, [], Option, Some, None, IsSomeAnd, IsTrue, All, AllPairs, Contains, get_or, is_some, length, slice_get, ⊤}
use Rattle.value_model.specs.declared.value.Value.{Value}
use Rattle.value_model.specs.declared.value.Value.TheVariants.{Nil}
use Rattle.value_model.specs.Heap.{Grows, IsClosed}
use Rattle.op_model.specs.Common.{Common, Role, Activation, Strand, End, Returned, Panicked, Need, Message, Received, AllEnded, AnyGiven, IsActive, IsBlocked, IsEnded}
use Rattle.op_model.specs.Strands.{activation_at, end_in, ended_count, has_ended, is_error, met}
use Rattle.machine_model.specs.Machine.{State}
use Rattle.machine_model.specs.Keeping.{Invariant, IsIdle, StateFits}
use Rattle.machine_model.specs.Runs.{Phase, Running, Picking}
use Rattle.stack_code.specs.declared.code.Code.{Code}
use Rattle.stack_code.specs.CodeMachine.{Standing}
use Rattle.stack_code.specs.Activations.{GoodActivations}
use Rattle.stack_code.specs.Frames.{AwaitsResult, IsLowest, TopFits, channel_in, end_in_call}
use Rattle.stack_code.specs.Tables.{IsInitialiser, UnitAt}
use Rattle.stack_code.specs.Values.{AllFit, Fits, GoodHeap, GoodVariables, IsMade, IsMadeError}

module _ (code : Code) (c : Common) where
  -- ---- strands

  abbrev pub EachStrand : (ℕ → Strand → Type 0) → Type 0
  EachStrand P = (n : ℕ) (s : Strand) → slice_get c.strands n ≡ Some s → P n s

  abbrev pub StrandAt : ℕ → (Strand → Type 0) → Type 0
  StrandAt n P = IsSomeAnd (slice_get c.strands n) P

  abbrev pub IsNilOrError : Value → Type 0
  IsNilOrError v = (v ≡ Nil) ⊎ IsTrue (is_error v)

  -- a result is one of the unit that the strand was made for; strand 0 is no future, and ends with nil or an error
  abbrev pub ResultFits : ℕ → ℕ → Value → Type 0
  ResultFits n unit v = IsMade code c v × (n ≢ 0 → UnitAt code unit (λ u. Fits code c v u.result)) × (n ≡ 0 → IsNilOrError v)

  abbrev pub EndFits : ℕ → ℕ → Option End → Type 0
  EndFits n unit (Some (Returned v)) = ResultFits n unit v
  EndFits n unit (Some (Panicked e)) = IsMadeError code c e
  EndFits n unit None = ⊤

  abbrev pub IsWorkerOf : ℕ → ℕ → Type 0
  IsWorkerOf a w = IsSomeAnd (slice_get c.activations a) (λ x. w < length x.ends)

  -- what a need names is there
  abbrev pub NeedIsThere : Need → Type 0
  NeedIsThere (Message a from to) = IsWorkerOf a from × IsWorkerOf a to
  NeedIsThere (Received a from to count) = IsWorkerOf a from × IsWorkerOf a to
  NeedIsThere (AllEnded ns) = All (λ n. n < length c.strands) ns
  NeedIsThere (AnyGiven ns) = All (λ n. n < length c.strands) ns

  -- a strand's end is typed, a need names what is there, fewer have ended before a strand than have ended by now, and only a
  -- result is taken
  pub record StrandFits (n : ℕ) (s : Strand) : Type 0 where
    pub end : EndFits n s.unit (end_in s.status)
    pub need : (need : Need) → s.status ≡ IsBlocked need → NeedIsThere need
    pub before : (k : ℕ) (end : End) → s.status ≡ IsEnded k end → k < ended_count c.strands
    pub taken : IsTrue s.taken → IsTrue (is_some (end_in s.status))

  -- ---- who is ready

  -- an active strand is ready, but for the one that runs
  abbrev pub IsKnown : Phase → ℕ → Type 0
  IsKnown Running n = Contains c.ready n ⊎ (n ≡ c.running)
  IsKnown Picking n = Contains c.ready n

  abbrev pub RunsOne : Phase → Type 0
  RunsOne Running = StrandAt c.running (λ s. s.status ≡ IsActive) × (¬ (Contains c.ready c.running))
  RunsOne Picking = ⊤

  -- each ready strand stands there once and is active
  pub record GoodReady (phase : Phase) : Type 0 where
    pub active : All (λ n. StrandAt n (λ s. s.status ≡ IsActive)) c.ready
    pub once : AllPairs (λ n m. n ≢ m) c.ready
    pub known : EachStrand (λ n s. s.status ≡ IsActive → IsKnown phase n)
    pub running : RunsOne phase
    pub there : c.running < length c.strands

  -- ---- what strand 0 still has to run

  abbrev pub IsToRun : ℕ × List Value → Type 0
  IsToRun u = (IsInitialiser code u.0 ⊎ (u.0 ≡ code.start)) × UnitAt code u.0 (λ x. AllFit code c u.1 x.params)

  -- ---- all that is shared

  -- before those who wake are ready
  pub record NearlyCommon (phase : Phase) : Type 0 where
    pub heap : GoodHeap code c
    pub variables : GoodVariables code c
    pub strands : EachStrand StrandFits
    pub activations : GoodActivations code c
    pub to_run : All IsToRun c.to_run
    pub ready : GoodReady phase
    -- strand 0 is that of main
    pub main : StrandAt 0 (λ s. (s.unit ≡ code.start) × (s.role ≡ None))

  -- nobody whose need is met is blocked
  abbrev pub IsSettled : Type 0
  IsSettled = EachStrand (λ n s. (need : Need) → s.status ≡ IsBlocked need → ¬ (IsTrue (met c need)))

  pub record GoodCommon (phase : Phase) : Type 0 where
    pub nearly : NearlyCommon phase
    pub settled : IsSettled

-- ---- what comes later

-- the worker's numbers of messages are as they were, and so is whether it has ended
abbrev pub IsSameWorker : ℕ → Activation → Activation → Type 0
IsSameWorker worker x y =
    ((w : ℕ) → ((channel_in y worker w).sent ≡ (channel_in x worker w).sent) × ((channel_in y w worker).received ≡ (channel_in x w worker).received))
    × (end_in_call y worker ≡ end_in_call x worker)

abbrev pub WorkerStays : Option Role → Common → Common → Type 0
WorkerStays None c d = ⊤
WorkerStays (Some r) c d = IsSameWorker r.worker (activation_at c r.activation) (activation_at d r.activation)

-- a strand stays that of its unit and role, and where it has ended it has ended
abbrev pub IsSameStrand : Strand → Strand → Type 0
IsSameStrand s t = (t.unit ≡ s.unit) × (t.role ≡ s.role) × (IsTrue (is_some (end_in s.status)) → IsTrue (is_some (end_in t.status)))

abbrev pub IsSameCall : Activation → Activation → Type 0
IsSameCall x y = (y.unit ≡ x.unit) × (y.strands ≡ x.strands)

pub record IsLater (q : Option Role) (c d : Common) : Type 0 where
  pub heap : Grows c.world.heap d.world.heap
  pub closed : IsClosed c.world.heap → IsClosed d.world.heap
  pub strands : (n : ℕ) (s : Strand) → slice_get c.strands n ≡ Some s → IsSomeAnd (slice_get d.strands n) (IsSameStrand s)
  pub calls : (a : ℕ) (x : Activation) → slice_get c.activations a ≡ Some x → IsSomeAnd (slice_get d.activations a) (IsSameCall x)
  pub worker : WorkerStays q c d

-- ---- states

abbrev pub code_invariant : Code → Invariant Standing
code_invariant code =
    record {
      good = λ phase c. GoodCommon code c phase;
      nearly = λ phase c. NearlyCommon code c phase;
      later = IsLater;
      fits = λ c n depth f. TopFits code c f;
      awaits = λ c n depth f callee. AwaitsResult code c f callee;
      holds = λ c v unit. UnitAt code unit (λ u. Fits code c v u.result);
      throws = λ c e. IsMadeError code c e;
      lowest = λ c n unit. IsLowest code c n unit;
      gone = λ c n. IsTrue (has_ended c n);
    }

-- what is shared is good, the last frame of each strand fits its place, each other one awaits the result of the one above it, no
-- worker runs twice, and a strand without frames has ended; and one that has ended has none
pub record Good (code : Code) (phase : Phase) (s : State Standing) : Type 0 where
  pub fits : StateFits (code_invariant code) phase s
  pub ended : (n : ℕ) → IsIdle phase s.common n → IsTrue (has_ended s.common n) → get_or s.others n [] ≡ []
