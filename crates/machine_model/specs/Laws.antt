-- The laws of machines.
use Rattle.std.specs.Prelude.{◌≡◌, ◌↔◌, ℕ, List}
use Rattle.bal_base.specs.declared.text.Text.{Text}
use Rattle.value_model.specs.Meaning.{Answers}
use Rattle.op_model.specs.Common.{Common}
use Rattle.op_model.specs.Laws.{AnswerOnce}
use Rattle.machine_model.specs.Machine.{Machine, Frame, State, Next, Step}
use Rattle.machine_model.specs.Runs.{AreWords, Phase, Stop, Runs, IsReached}
use Rattle.machine_model.specs.Outcomes.{Outcome, IsAllowed}
use Rattle.machine_model.specs.Keeping.{Invariant, IsKept, StateFits}
use Rattle.machine_model.specs.Along.{FlowsKept, along}
use Rattle.machine_model.specs.Following.{AreFine, FramesFollow, Settles}

-- a state has at most one next one, where the natives come to one thing
abbrev pub StepsOnce : Answers → {C : Type 0} → Machine C → Type 0
StepsOnce natives {C} M =
    AnswerOnce natives → (s : State C) (x y : Next C) → Step natives M s x → Step natives M s y → x ≡ y

-- by an order a state has one run at most: in so many steps, to one stop with one thing in common
abbrev pub RunsOnce : Answers → {C : Type 0} → Machine C → Type 0
RunsOnce natives {C} M =
    AnswerOnce natives → (phase : Phase) (n m : ℕ) (s : State C) (order : List ℕ) (stop other : Stop) (c d : Common) →
    Runs natives M phase n s order stop c → Runs natives M phase m s order other d → (n ≡ m) × (stop ≡ other) × (c ≡ d)

-- for all words that are texts, inputs, orders and ticks one machine has an outcome exactly where the other has it
abbrev pub HaveSameOutcomes : {A B : Type 0} → Answers → Machine A → Machine B → Type 0
HaveSameOutcomes natives M N =
    (words : List Text) (input order : List ℕ) (ticks : ℕ) (o : Outcome) → AreWords words →
    ((n : ℕ) × IsAllowed natives M words input order ticks n o) ↔ ((n : ℕ) × IsAllowed natives N words input order ticks n o)

-- machines whose frames answer alike have the same outcomes, where each frame of the first comes to what it asks
abbrev pub FollowersDoTheSame : {A B : Type 0} → Answers → Machine A → Machine B → (A → B → Type 0) → (Common → A → Type 0) → Type 0
FollowersDoTheSame {A} natives M N Follows Fine =
    FramesFollow natives M N Follows Fine → AreFine natives M Fine → ((unit : ℕ) (a : A) → Settles M unit a) →
    HaveSameOutcomes natives M N

-- what is kept holds of each state that the machine reaches on words that are texts
abbrev pub KeptHolds : {C : Type 0} → Answers → Machine C → Invariant C → Type 0
KeptHolds {C} natives M I =
    IsKept natives M I → (words : List Text) (input : List ℕ) (ticks : ℕ) (phase : Phase) (s : State C) → AreWords words →
    IsReached natives M words input ticks phase s → StateFits I phase s

-- where frames follow, what the second machine keeps, and facts besides that are kept along with it, the first machine keeps
abbrev pub KeepsAlong : {A B : Type 0} → Answers → Machine A → Machine B → (A → B → Type 0) → (Common → A → Type 0) → Invariant B → (Common → Frame A → Type 0) → (Common → Frame A → ℕ → Type 0) → Type 0
KeepsAlong natives M N Follows Fine I Flows FlowsBehind =
    FramesFollow natives M N Follows Fine → IsKept natives N I → FlowsKept natives M N Follows Fine I Flows FlowsBehind →
    IsKept natives M (along natives M N Follows Fine I Flows FlowsBehind)

-- so the first machine's frames are as they have to be
abbrev pub SoundFollowersAreFine : {A B : Type 0} → Answers → Machine A → Machine B → (A → B → Type 0) → (Common → A → Type 0) → Invariant B → (Common → Frame A → Type 0) → (Common → Frame A → ℕ → Type 0) → Type 0
SoundFollowersAreFine natives M N Follows Fine I Flows FlowsBehind =
    FramesFollow natives M N Follows Fine → IsKept natives N I → FlowsKept natives M N Follows Fine I Flows FlowsBehind → AreFine natives M Fine

-- and where they answer alike, both have the same outcomes
abbrev pub SoundFollowersDoTheSame : {A B : Type 0} → Answers → Machine A → Machine B → (A → B → Type 0) → (Common → A → Type 0) → Invariant B → (Common → Frame A → Type 0) → (Common → Frame A → ℕ → Type 0) → Type 0
SoundFollowersDoTheSame {A} natives M N Follows Fine I Flows FlowsBehind =
    FramesFollow natives M N Follows Fine → IsKept natives N I → FlowsKept natives M N Follows Fine I Flows FlowsBehind →
    ((unit : ℕ) (a : A) → Settles M unit a) → HaveSameOutcomes natives M N
