-- Which of the ready strands is picked, where a seed names the picks.
use Rattle.std.specs.Prelude.{◌≡◌, ◌+◌, ◌%◌, ◌==◌, ℕ, List, Some, if◌then◌else◌, length, slice_get, take}
use Rattle.bal_base.specs.declared.text.Text.{Text}
use Rattle.value_model.specs.Meaning.{Answers}
use Rattle.machine_model.specs.Machine.{Machine, State}
use Rattle.machine_model.specs.Runs.{Picking, Reaches}

-- the place in a ready list of so many that a seed names at this turn: seed 0 always names the first one
abbrev pub place_named : ℕ → ℕ → ℕ → ℕ
place_named seed turn count = if seed == 0 then 0 else (turn % count + seed % count) % count

module _ {C : Type 0} (natives : Answers) (M : Machine C) (words : List Text) (input : List ℕ) (ticks seed : ℕ) where
  -- the run stood so before this turn, and the place is the one that the seed names
  pub record IsPickedAt (order : List ℕ) (turn place : ℕ) : Type 0 where
    pub steps : ℕ
    pub state : State C
    pub came : Reaches natives M words input ticks Picking steps (take turn order) state
    pub named : place ≡ place_named seed turn (length state.common.ready)

  -- each place of the order is the one that the seed names at its turn, of the ready list where the run then stood
  abbrev pub IsBySeed : List ℕ → Type 0
  IsBySeed order = (turn place : ℕ) → slice_get order turn ≡ Some place → IsPickedAt order turn place
