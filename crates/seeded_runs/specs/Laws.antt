-- That runs of one machine are runs of another, pick by pick.
use Rattle.std.specs.Prelude.{◌≡◌, ℕ, List, Option}
use Rattle.bal_base.specs.declared.text.Text.{Text}
use Rattle.value_model.specs.Meaning.{Answers}
use Rattle.op_model.specs.Common.{Common}
use Rattle.machine_model.specs.Following.{AreFine, FramesFollow, Settles}
use Rattle.machine_model.specs.Machine.{Machine, State}
use Rattle.machine_model.specs.Outcomes.{IsAllowed, Outcome}
use Rattle.machine_model.specs.Runs.{AreWords, Phase, Reaches}
use Rattle.seeded_runs.specs.Runs.{IsCut, RunsTo}

module _ {A B : Type 0} (natives : Answers) (M : Machine A) (N : Machine B) where
  -- a state of the first machine that is reached by the same picks as this one of the second, with the same in common
  pub record IsBeside (words : List Text) (input : List ℕ) (ticks : ℕ) (phase : Phase) (order : List ℕ) (t : State B) : Type 0 where
    pub state : State A
    pub steps : ℕ
    pub came : Reaches natives M words input ticks phase steps order state
    pub same : state.common ≡ t.common

  -- whatever the second machine comes to by some picks, the first comes to by the same
  abbrev pub ReachesAlike : Type 0
  ReachesAlike =
      (words : List Text) (input : List ℕ) (ticks : ℕ) (phase : Phase) (n : ℕ) (order : List ℕ) (t : State B) → AreWords words
      → Reaches natives N words input ticks phase n order t → IsBeside words input ticks phase order t

  -- whatever outcome the second machine has under an order, the first has under the same
  abbrev pub EndsAlike : Type 0
  EndsAlike =
      (words : List Text) (input order : List ℕ) (ticks : ℕ) (o : Outcome) → AreWords words → (n : ℕ) × IsAllowed natives N words input order ticks n o
      → (n : ℕ) × IsAllowed natives M words input order ticks n o

  -- what comes of runs of the second machine, and what is written of them, comes of runs of the first
  pub record RunsAlike : Type 0 where
    pub runs : (words : List Text) (input : List ℕ) (ticks seed : ℕ) (o : Outcome) (old new : Option (List ℕ)) → AreWords words
        → RunsTo natives N words input ticks seed o old new → RunsTo natives M words input ticks seed o old new
    pub cut : (words : List Text) (input : List ℕ) (ticks seed : ℕ) (old new : Option (List ℕ)) → AreWords words
        → IsCut natives N words input ticks seed old new → IsCut natives M words input ticks seed old new

-- so it is where frames of the second follow those of the first, and each of these comes to what it asks
abbrev pub FollowersReachAlike : {A B : Type 0} → Answers → Machine A → Machine B → (A → B → Type 0) → (Common → A → Type 0) → Type 0
FollowersReachAlike {A} natives M N Follows Fine =
    FramesFollow natives M N Follows Fine → AreFine natives M Fine → ((unit : ℕ) (a : A) → Settles M unit a) → ReachesAlike natives M N

abbrev pub FollowersRunAlike : {A B : Type 0} → Answers → Machine A → Machine B → (A → B → Type 0) → (Common → A → Type 0) → Type 0
FollowersRunAlike {A} natives M N Follows Fine =
    FramesFollow natives M N Follows Fine → AreFine natives M Fine → ((unit : ℕ) (a : A) → Settles M unit a) → RunsAlike natives M N
