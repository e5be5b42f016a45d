-- What holds of single frames and of what they share, kept by each step, holds of each state that a machine reaches.
use Rattle.std.specs.Prelude.{◌≡◌, ◌≢◌, ◌⊎◌, ◌<◌, ◌+◌, ℕ, suc, List, [], ◌∷◌, Option, Some, None, length, slice_get, ⊤}
use Rattle.bal_base.specs.declared.text.Text.{Text}
use Rattle.value_model.specs.declared.value.Value.{Value}
use Rattle.value_model.specs.Meaning.{Answers}
use Rattle.op_model.specs.Common.{Common, Role, End, Returned, Panicked}
use Rattle.op_model.specs.Strands.{activation_at, settled, strand_blocked, strand_ended, worker_ended}
use Rattle.op_model.specs.Effects.{Effect, Gives, Fails, Waits, Enters, Leaves, Spawns, NoTick, Beyond, Spawned}
use Rattle.op_model.specs.Performs.{Performs}
use Rattle.machine_model.specs.Machine.{Machine, Ask, On, Does, Stuck, Frame, State, goes_to, next_units}
use Rattle.machine_model.specs.Runs.{AreWords, Phase, Running, Picking, start, taken_up}

-- ---- what is to hold

-- A strand is given by its number, and the depth of a frame is how many frames its strand has from this one down.
pub record Invariant (C : Type 0) : Type 1 where
  -- what is shared, while a strand runs and while none does
  pub good : Phase → Common → Type 0
  -- the same before those who wake are ready
  pub nearly : Phase → Common → Type 0
  -- the second comes later than the first, and what is of this worker is as it was
  pub later : Option Role → Common → Common → Type 0
  -- a frame that is about to go on
  pub fits : Common → (strand depth : ℕ) → Frame C → Type 0
  -- a frame that awaits the result of this unit
  pub awaits : Common → (strand depth : ℕ) → Frame C → (callee : ℕ) → Type 0
  -- the value may be the result of the unit
  pub holds : Common → Value → (unit : ℕ) → Type 0
  -- the value may be the error of a panic
  pub throws : Common → Value → Type 0
  -- the lowest frame of the strand may be of the unit
  pub lowest : Common → (strand unit : ℕ) → Type 0
  -- the strand has no frames any more
  pub gone : Common → (strand : ℕ) → Type 0

-- ---- workers and their strands

-- a worker runs on the strand that its activation says
abbrev pub RunsOn : Common → ℕ → Option Role → Type 0
RunsOn c n (Some r) = slice_get (activation_at c r.activation).strands r.worker ≡ Some n
RunsOn c n None = ⊤

-- no strand runs it yet
abbrev pub IsFresh : Common → Option Role → Type 0
IsFresh c role = (n : ℕ) → ¬ (RunsOn c n role)

-- they are not the same worker
abbrev pub AreApart : Option Role → Option Role → Type 0
AreApart (Some r) (Some q) = r ≢ q
AreApart (Some r) None = ⊤
AreApart None role = ⊤

abbrev pub ApartFrom : {C : Type 0} → Option Role → List (Frame C) → Type 0
ApartFrom role [] = ⊤
ApartFrom role (g ∷ gs) = AreApart g.role role × ApartFrom role gs

-- the same strand runs, of as many
abbrev pub KeepsStrands : Common → Common → Type 0
KeepsStrands c d = (d.running ≡ c.running) × (length d.strands ≡ length c.strands)

-- the strand doesn't run: its frames are among the others
abbrev pub IsIdle : Phase → Common → ℕ → Type 0
IsIdle Running c n = n ≢ c.running
IsIdle Picking c n = ⊤

-- ---- what is to hold of states

module _ {C : Type 0} (I : Invariant C) where
  -- the frames that await the callee, on the strand n
  abbrev pub BelowFit : Common → ℕ → ℕ → List (Frame C) → Type 0
  BelowFit c n callee [] = I.lowest c n callee
  BelowFit c n callee (f ∷ fs) = I.awaits c n (length (f ∷ fs)) f callee × RunsOn c n f.role × ApartFrom f.role fs × BelowFit c n f.unit fs

  -- the frames of the strand n
  abbrev pub FramesFit : Common → ℕ → List (Frame C) → Type 0
  FramesFit c n [] = I.gone c n
  FramesFit c n (f ∷ fs) = I.fits c n (length (f ∷ fs)) f × RunsOn c n f.role × ApartFrom f.role fs × BelowFit c n f.unit fs

  -- those of the strands from k on that don't run
  abbrev pub OthersFit : Phase → Common → ℕ → List (List (Frame C)) → Type 0
  OthersFit phase c k [] = ⊤
  OthersFit phase c k (x ∷ xs) = (IsIdle phase c k → FramesFit c k x) × OthersFit phase c (suc k) xs

  -- those of the running strand, which is there
  abbrev pub RunningFits : Phase → State C → Type 0
  RunningFits Running s = FramesFit s.common s.common.running s.frames × (s.common.running < length s.others)
  RunningFits Picking s = s.frames ≡ []

  pub record StateFits (phase : Phase) (s : State C) : Type 0 where
    pub good : I.good phase s.common
    pub others : OthersFit phase s.common 0 s.others
    pub count : length s.others ≡ length s.common.strands
    pub frames : RunningFits phase s

-- ---- what is to hold of steps

-- where a panic goes on
abbrev pub Caught : {C : Type 0} → (Frame C → Type 0) → Frame C → Option C → Type 0
Caught P f (Some k) = P (goes_to f k)
Caught P f None = ⊤

module _ {C : Type 0} (natives : Answers) (M : Machine C) (I : Invariant C) where
  -- ---- what is asked of a frame

  -- nothing changes of any worker, or only of this one
  abbrev pub LaterForAll : Common → Common → Type 0
  LaterForAll c d = (q : Option Role) → I.later q c d

  abbrev pub LaterBut : Option Role → Common → Common → Type 0
  LaterBut role c d = (q : Option Role) → AreApart q role → I.later q c d

  -- the first frame of a call of the unit, where there is such a unit
  abbrev pub BeginsWell : Common → (strand depth : ℕ) → ℕ → List Value → Option Role → Type 0
  BeginsWell d n depth unit args role = (k : C) → M.enter unit args ≡ Some k → I.fits d n depth (record { unit = unit; role = role; control = k })

  -- the strands that are made have the numbers from n on
  abbrev pub AllBegin : Common → ℕ → List Spawned → Type 0
  AllBegin d n [] = ⊤
  AllBegin d n (s ∷ ss) = (BeginsWell d n 1 s.unit s.args s.role × RunsOn d n s.role × I.lowest d n s.unit) × AllBegin d (suc n) ss

  -- what each effect must leave, where the frame f at this depth of the running strand asked and k awaits the result
  abbrev pub EffectFits : Common → ℕ → Frame C → C → Effect → Type 0
  EffectFits c depth f k (Gives vs d) = I.good Running d × KeepsStrands c d × LaterBut f.role c d × I.fits d c.running depth (goes_to f (M.resume k vs))
  EffectFits c depth f k (Fails e d) =
      I.nearly Running d × KeepsStrands c d × LaterBut f.role c d × I.throws d e × Caught (I.fits d c.running depth) f (M.catch k e)
  EffectFits c depth f k (Waits need) = I.good Picking (strand_blocked need c) × LaterForAll c (strand_blocked need c)
  EffectFits c depth f k (Enters unit args d) =
      I.good Running d × KeepsStrands c d × LaterForAll c d × BeginsWell d c.running (suc depth) unit args None × I.awaits d c.running depth (goes_to f k) unit
  EffectFits c depth f k (Leaves v) =
      let d = worker_ended (Returned v) f.role c in I.nearly Running d × LaterBut f.role c d × I.holds d v f.unit
  EffectFits c depth f k (Spawns ss role vs d) =
      I.good Running d × (d.running ≡ c.running) × (length d.strands ≡ length c.strands + length ss) × LaterBut f.role c d
      × ((role ≡ f.role) ⊎ (IsFresh c role × RunsOn d c.running role))
      × I.fits d c.running depth (record { unit = f.unit; role = role; control = M.resume k vs }) × AllBegin d (length c.strands) ss
  EffectFits c depth f k NoTick = ⊤
  EffectFits c depth f k (Beyond limit) = ⊤

  abbrev pub AskFits : Common → ℕ → Frame C → Ask C → Type 0
  AskFits c depth f (On b) = I.fits c c.running depth (goes_to f b)
  AskFits c depth f (Does op vs k) =
      (effect : Effect) → Performs M.facts natives op vs (record { unit = f.unit; role = f.role; depth = depth }) c effect → EffectFits c depth f k effect
  -- so a frame that fits can go on
  AskFits c depth f Stuck = ⊥

  abbrev pub EndFits : Common → End → Type 0
  EndFits c (Returned v) = (unit : ℕ) × I.holds c v unit × I.lowest c c.running unit
  EndFits c (Panicked e) = I.throws c e

  -- ---- when all of this is kept

  pub record IsKept : Type 0 where
    -- a frame that fits asks for what fits
    pub asks : (c : Common) (depth : ℕ) (f : Frame C) → I.good Running c → I.fits c c.running depth f → AskFits c depth f (M.look f.unit f.control)
    -- what comes later comes later still
    pub stays : (q : Option Role) (c : Common) → I.later q c c
    pub follows : (q : Option Role) (c d e : Common) → I.later q c d → I.later q d e → I.later q c e
    -- a frame that awaits a result fits with it, and where it catches an error
    pub resumes : (c : Common) (n depth : ℕ) (f : Frame C) (callee : ℕ) (v : Value) → I.awaits c n depth f callee → I.holds c v callee → I.fits c n depth (goes_to f (M.resume f.control (v ∷ [])))
    pub catches : (c : Common) (n depth : ℕ) (f : Frame C) (callee : ℕ) (e : Value) → I.awaits c n depth f callee → I.throws c e → Caught (I.fits c n depth) f (M.catch f.control e)
    -- and what held then holds
    pub fits : (c d : Common) (n depth : ℕ) (f : Frame C) → I.later f.role c d → I.fits c n depth f → I.fits d n depth f
    pub awaits : (c d : Common) (n depth : ℕ) (f : Frame C) (callee : ℕ) → I.later f.role c d → I.awaits c n depth f callee → I.awaits d n depth f callee
    pub holds : (c d : Common) (v : Value) (unit : ℕ) → I.later None c d → I.holds c v unit → I.holds d v unit
    pub throws : (c d : Common) (e : Value) → I.later None c d → I.throws c e → I.throws d e
    pub lowest : (c d : Common) (n unit : ℕ) → I.later None c d → I.lowest c n unit → I.lowest d n unit
    pub gone : (c d : Common) (n : ℕ) → I.later None c d → I.gone c n → I.gone d n
    pub runs_on : (c d : Common) (n : ℕ) (role : Option Role) → I.later None c d → RunsOn c n role → RunsOn d n role
    -- who wakes becomes ready
    pub settles : (phase : Phase) (c : Common) → I.nearly phase c → I.good phase (settled c) × LaterForAll c (settled c)
    -- a panic ends a worker
    pub closes : (c : Common) (e : Value) (role : Option Role) → I.nearly Running c → I.throws c e →
        I.nearly Running (worker_ended (Panicked e) role c) × LaterBut role c (worker_ended (Panicked e) role c)
    -- the running strand ends, where it has nothing more to run
    pub ends : (c : Common) (end : End) → I.nearly Running c → EndFits c end → next_units c end ≡ [] →
        I.nearly Picking (strand_ended end c) × LaterForAll c (strand_ended end c) × I.gone (strand_ended end c) c.running
    -- or it begins the next unit
    pub begins : (c : Common) (end : End) (u : ℕ × List Value) (us : List (ℕ × List Value)) → I.nearly Running c → EndFits c end → next_units c end ≡ u ∷ us →
        let d = settled (record c { to_run = us }) in I.good Running d × LaterForAll c d × BeginsWell d c.running 1 u.0 u.1 None × I.lowest d c.running u.0
    -- a strand is picked, while none runs
    pub picks : (c : Common) (place n : ℕ) → I.good Picking c → slice_get c.ready place ≡ Some n →
        I.good Running (taken_up c place n) × LaterForAll c (taken_up c place n) × (n < length c.strands)
    -- and so it begins
    pub starts : (words : List Text) (input : List ℕ) (ticks : ℕ) (s : State C) → AreWords words → start M words input ticks ≡ Some s → StateFits I Picking s
