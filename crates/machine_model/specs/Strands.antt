-- What holds of the strands of every machine in each state that it reaches: who has frames, who is ready, who is blocked and
-- for what, and where each worker runs. It speaks of statuses and roles, and of what frames do only where a strand is blocked.
use Rattle.std.specs.Prelude.{◌≡◌, ◌≢◌, ◌⊎◌, ◌<◌, ◌≤◌, ◌+◌, ◌==◌, ℕ, false, List, [], ◌∷◌, Option, Some, None, IsSomeAnd, get_or, if◌then◌else◌, length, map, option_map, slice_get, ⊤}
use Rattle.bal_base.specs.declared.text.Text.{Text}
use Rattle.operations.specs.declared.operation.Operation.TheVariants.{Workers, WaitAny}
use Rattle.value_model.specs.declared.value.Value.{Value}
use Rattle.value_model.specs.Meaning.{Answers}
use Rattle.op_model.specs.Common.{Activation, Common, Need, Role, Strand, Status, IsActive, IsBlocked, IsEnded}
use Rattle.op_model.specs.Effects.{Waits}
use Rattle.op_model.specs.Performs.{Performs}
use Rattle.op_model.specs.Strands.{activation_at, channel_at, end_in, met, settled}
use Rattle.machine_model.specs.Machine.{Machine, Ask, On, Does, Stuck, Frame, State, caller}
use Rattle.machine_model.specs.Runs.{AreWords, Phase, Running, Picking, IsReached}
use Rattle.machine_model.specs.Keeping.{RunsOn}

-- ---- workers

abbrev pub role_of : ℕ → ℕ → Role
role_of a w = record { activation = a; worker = w }

-- it is a worker of the activation, and has not ended
abbrev pub IsUnfinished : Common → ℕ → ℕ → Type 0
IsUnfinished c a w = slice_get (activation_at c a).ends w ≡ Some None

-- ---- frames

-- the frames of a strand that doesn't run
abbrev pub frames_of : {C : Type 0} → State C → ℕ → List (Frame C)
frames_of s n = get_or s.others n []

-- those of any strand: the running one has its own
abbrev pub frames_in : {C : Type 0} → Phase → State C → ℕ → List (Frame C)
frames_in Picking s n = frames_of s n
frames_in Running s n = if n == s.common.running then s.frames else frames_of s n

abbrev pub top_role : {C : Type 0} → List (Frame C) → Option Role
top_role [] = None
top_role (f ∷ fs) = f.role

abbrev pub roles_of : {C : Type 0} → List (Frame C) → List (Option Role)
roles_of fs = map (λ f. f.role) fs

-- a worker is of a later activation than another one
abbrev pub IsLaterThan : Option Role → Option Role → Type 0
IsLaterThan (Some r) (Some q) = q.activation < r.activation
IsLaterThan (Some r) None = ⊤
IsLaterThan None role = ⊤

abbrev pub IsLaterThanAll : Option Role → List (Option Role) → Type 0
IsLaterThanAll role [] = ⊤
IsLaterThanAll role (other ∷ roles) = IsLaterThan role other × IsLaterThanAll role roles

-- activations rise from the lowest frame up
abbrev pub Rise : List (Option Role) → Type 0
Rise [] = ⊤
Rise (role ∷ roles) = IsLaterThanAll role roles × Rise roles

-- one of the frames is this worker
abbrev pub HasRole : Role → List (Option Role) → Type 0
HasRole r [] = ⊥
HasRole r (role ∷ roles) = (role ≡ Some r) ⊎ HasRole r roles

-- the lowest frame is this worker
abbrev pub LowestIs : Role → List (Option Role) → Type 0
LowestIs r [] = ⊥
LowestIs r (role ∷ []) = role ≡ Some r
LowestIs r (role ∷ other ∷ roles) = LowestIs r (other ∷ roles)

-- a frame that is a worker is one that has not ended, and that runs on this strand
abbrev pub IsOn : Common → ℕ → Option Role → Type 0
IsOn c n (Some r) = RunsOn c n (Some r) × IsUnfinished c r.activation r.worker
IsOn c n None = ⊤

abbrev pub AreOn : Common → ℕ → List (Option Role) → Type 0
AreOn c n [] = ⊤
AreOn c n (role ∷ roles) = IsOn c n role × AreOn c n roles

-- ---- the ready list

-- how often a number stands in a list
abbrev pub times : ℕ → List ℕ → ℕ
times n [] = 0
times n (m ∷ ms) = (if m == n then 1 else 0) + times n ms

-- an active strand that doesn't run, of which m is the one that runs if any does
abbrev pub idle_times : Phase → ℕ → ℕ → ℕ
idle_times Running m n = if n == m then 0 else 1
idle_times Picking m n = 1

abbrev pub due_in : Phase → ℕ → ℕ → Option Status → ℕ
due_in phase m n (Some IsActive) = idle_times phase m n
due_in phase m n (Some (IsBlocked need)) = 0
due_in phase m n (Some (IsEnded place end)) = 0
due_in phase m n None = 0

-- how often a strand has to stand in the ready list: once where it is active and doesn't run, else not at all
abbrev pub due : Phase → Common → ℕ → ℕ
due phase c n = due_in phase c.running n (option_map (λ x. x.status) (slice_get c.strands n))

-- ---- what holds

module _ {C : Type 0} (natives : Answers) (M : Machine C) (phase : Phase) (s : State C) where
  abbrev pub frames_at : ℕ → List (Frame C)
  frames_at n = frames_in phase s n

  abbrev pub roles_at : ℕ → List (Option Role)
  roles_at n = roles_of (frames_at n)

  -- what the frame is to do can't be done, for this need
  abbrev pub StillWaits : Need → Frame C → List (Frame C) → Ask C → Type 0
  StillWaits need f fs (Does op vs k) = Performs M.facts natives op vs (caller f fs) s.common (Waits need)
  StillWaits need f fs (On c) = ⊥
  StillWaits need f fs Stuck = ⊥

  abbrev pub TopWaits : Need → List (Frame C) → Type 0
  TopWaits need [] = ⊥
  TopWaits need (f ∷ fs) = StillWaits need f fs (M.look f.unit f.control)

  pub record StrandHolds (n : ℕ) (x : Strand) : Type 0 where
    -- a strand that has ended has no frames, and any other one has some
    pub ended : end_in x.status ≢ None → frames_at n ≡ []
    pub manned : end_in x.status ≡ None → frames_at n ≢ []
    -- what a blocked strand needs is not there, and its top frame still waits for just that
    pub blocked : (need : Need) → x.status ≡ IsBlocked need → (met s.common need ≡ false) × TopWaits need (frames_at n)
    -- its workers run on it and have not ended, the later ones above the earlier ones
    pub on : AreOn s.common n (roles_at n)
    pub rise : Rise (roles_at n)
    -- a strand that was made for a named worker runs it, and has it at the bottom until it ends
    pub named : (r : Role) → x.role ≡ Some r → RunsOn s.common n (Some r) × (end_in x.status ≡ None → LowestIs r (roles_at n))

  pub record ActivationHolds (a : ℕ) (x : Activation) : Type 0 where
    -- each worker's strand is there, and has its frame as long as the worker has not ended
    pub workers : (w n : ℕ) → slice_get x.strands w ≡ Some n →
        (n < length s.common.strands) × (IsUnfinished s.common a w → HasRole (role_of a w) (roles_at n))
    -- no two are on one strand
    pub apart : (v w n : ℕ) → slice_get x.strands v ≡ Some n → slice_get x.strands w ≡ Some n → v ≡ w
    pub ends : length x.ends ≡ length x.strands
    -- what was sent is in the queue or was received
    pub queues : (v w : ℕ) → (channel_at s.common a v w).sent ≤ length (channel_at s.common a v w).queue + (channel_at s.common a v w).received

  pub record StrandsHold : Type 0 where
    pub strands : (n : ℕ) (x : Strand) → slice_get s.common.strands n ≡ Some x → StrandHolds n x
    pub activations : (a : ℕ) (x : Activation) → slice_get s.common.activations a ≡ Some x → ActivationHolds a x
    pub ready : (n : ℕ) → times n s.common.ready ≡ due phase s.common n
    -- who can be woken has been
    pub settles : settled s.common ≡ s.common
    pub running : phase ≡ Running → IsSomeAnd (slice_get s.common.strands s.common.running) (λ x. x.status ≡ IsActive)
    pub count : length s.others ≡ length s.common.strands

-- ---- what frames are not to ask for

module _ {C : Type 0} (natives : Answers) (M : Machine C) where
  -- named workers are started by a frame that is no worker yet
  abbrev pub StartsOnce : Type 0
  StartsOnce =
      (words : List Text) (input : List ℕ) (ticks : ℕ) (s : State C) (f : Frame C) (fs : List (Frame C)) (vs : List Value) (k : C) → AreWords words →
      IsReached natives M words input ticks Running s → s.frames ≡ f ∷ fs → M.look f.unit f.control ≡ Does Workers vs k → f.role ≡ None

  -- an alternate wait is for something
  abbrev pub WaitsForSome : Type 0
  WaitsForSome =
      (words : List Text) (input : List ℕ) (ticks : ℕ) (s : State C) (f : Frame C) (fs : List (Frame C)) (names : List (Option ℕ)) (vs : List Value) (k : C) → AreWords words →
      IsReached natives M words input ticks Running s → s.frames ≡ f ∷ fs → M.look f.unit f.control ≡ Does (WaitAny names) vs k → names ≢ []

  abbrev pub HoldOfStrands : Type 0
  HoldOfStrands =
      StartsOnce → WaitsForSome → (words : List Text) (input : List ℕ) (ticks : ℕ) (phase : Phase) (s : State C) → AreWords words →
      IsReached natives M words input ticks phase s → StrandsHold natives M phase s
