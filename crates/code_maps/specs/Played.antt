-- What is known while a trace is played.
use Rattle.std.specs.Prelude.{◌≡◌, ◌≤◌, ◌++◌, ℕ, List, [], ◌∷◌, Option, length, map, take}
use Rattle.std.specs.List.{AllZip}
use Rattle.type_model.specs.SameType.{IsSameType}
use Rattle.stack_code.specs.declared.code.StackMap.{StackMap}
use Rattle.stack_code.specs.Commands.{Command}
use Rattle.stack_code.specs.Places.{Tally, tally_of}
use Rattle.map_model.specs.Whole.{IsMapOf, Point, points, tallies}
use Rattle.map_traces.specs.Events.{type_of}
use Rattle.map_traces.specs.Tracing.{Tracing, turned}
use Rattle.code_maps.specs.declared.player.Player.{Player}
use Rattle.code_maps.specs.Counted.{tally_along, tally_in}

-- it has the types of the operands that wait, and the numbers of messages so far
abbrev pub IsMapHere : Player → StackMap → Type 0
IsMapHere p m = AllZip IsSameType (map type_of p.waiting.items) m.stack × (tally_of m ≡ tally_in p.exchanged)

-- one map more, for the place that is next
abbrev pub HasMapMore : Player → Player → Type 0
HasMapMore old new = (m : StackMap) × IsMapHere old m × (new.maps.items ≡ old.maps.items ++ m ∷ [])

-- behind maps for these points the player has those of the places that were told so far, at which these commands stand
pub record IsPlayed (workers : ℕ) (begin : Option Tally) (commands : List Command) (before : List Point) (s : Tracing) (p : Player) : Type 0 where
  pub waiting : turned s.waiting ≡ map type_of p.waiting.items
  pub maps : AllZip IsMapOf p.maps.items (before ++ points s.places (tallies workers begin commands))
  pub next : length s.places ≡ p.next
  pub within : p.next ≤ length commands
  pub tally : tally_in p.exchanged ≡ tally_along workers begin (take p.next commands)

-- this is told, and played
abbrev pub Goes : ℕ → List Command → (Tracing → Tracing) → Player → Player → Type 0
Goes workers commands tells old new =
    (begin : Option Tally) (before : List Point) (s : Tracing) → IsPlayed workers begin commands before s old → IsPlayed workers begin commands before (tells s) new
