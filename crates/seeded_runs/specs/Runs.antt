-- What comes of a run whose picks a seed names, on any machine, and what of it was written.
use Rattle.std.specs.Prelude.{◌≡◌, ◌⊎◌, ◌++◌, ℕ, List, [], Option}
use Rattle.bal_base.specs.declared.text.Text.{Text}
use Rattle.bal_io.specs.Content.{Appends, IsPrefixOf, Told}
use Rattle.value_model.specs.Meaning.{Answers}
use Rattle.machine_model.specs.Machine.{Machine, State}
use Rattle.machine_model.specs.Outcomes.{IsAllowed, Outcome}
use Rattle.machine_model.specs.Runs.{Phase, Reaches}
use Rattle.seeded_runs.specs.Seeds.{IsBySeed}

module _ {C : Type 0} (natives : Answers) (M : Machine C) (words : List Text) (input : List ℕ) (ticks seed : ℕ) where
  -- by picks that the seed names the run comes to this state
  pub record Comes (phase : Phase) (order : List ℕ) (s : State C) : Type 0 where
    pub picks : IsBySeed natives M words input ticks seed order
    pub steps : ℕ
    pub came : Reaches natives M words input ticks phase steps order s

  -- by picks that the seed names the machine has this outcome
  pub record HasOutcome (o : Outcome) : Type 0 where
    pub order : List ℕ
    pub picks : IsBySeed natives M words input ticks seed order
    pub allowed : (n : ℕ) × IsAllowed natives M words input order ticks n o

  -- the run came to where this is a first part of what was written
  pub record IsWrittenByThen (front : List ℕ) : Type 0 where
    pub phase : Phase
    pub order : List ℕ
    pub state : State C
    pub came : Comes phase order state
    pub written : IsPrefixOf front state.common.world.output

  -- a first part of what was written where the run came
  abbrev pub IsFrontOfRun : List ℕ → Type 0
  IsFrontOfRun front = (front ≡ []) ⊎ IsWrittenByThen front

  -- a first part of a run was appended
  pub record AppendsFrontOfRun (old new : List ℕ) : Type 0 where
    pub front : List ℕ
    pub part : IsFrontOfRun front
    pub appended : new ≡ old ++ front

  -- the run came to this outcome, and all its output was written
  abbrev pub RunsTo : Outcome → Option (List ℕ) → Option (List ℕ) → Type 0
  RunsTo o old new = HasOutcome o × Told (Appends o.output) old new

  -- it was cut short, and a first part of it was written
  abbrev pub IsCut : Option (List ℕ) → Option (List ℕ) → Type 0
  IsCut old new = Told AppendsFrontOfRun old new
