-- What an operation on the world comes to, and what room is left in the heap.
use Rattle.std.specs.Prelude.{⊤, ◌≡◌, ◌+◌, ◌<◌, ℕ, ℤ, true, false, List, Option, Some, None, nat_le, option_to_list}
use Rattle.bal_base.specs.Valid.{IsInt}
use Rattle.bal_base.specs.declared.text.Text.{Text}
use Rattle.value_model.specs.declared.value.Value.{Value}
use Rattle.value_model.specs.Heap.{cells}
use Rattle.value_model.specs.World as model
use Rattle.op_model.specs.Limits.{most_cells}
use Rattle.op_model.specs.Rows.{makes_error, next_error}
use Rattle.plain_run.specs.declared.world.Came.{Came}
use Rattle.plain_run.specs.declared.world.Came.TheVariants.{Gave, Threw, PassesCells}
use Rattle.plain_run.specs.declared.held.World.{World}
use Rattle.plain_run.specs.Held.{world_of}

-- what came, where the world is then this
abbrev pub came_of : Came → World → model.Came
came_of (Gave v) w = model.Gave (option_to_list v) (world_of w)
came_of (Threw e) w = model.Threw e (world_of w)
came_of PassesCells w = model.PassesCells

-- what could not be done changed nothing
abbrev pub WorldStays : World → World → Came → Type 0
WorldStays old new (Gave v) = ⊤
WorldStays old new (Threw e) = ⊤
WorldStays old new PassesCells = world_of new ≡ world_of old

-- an error and its detail were made, and this is its number; or there was no room for them, and nothing changed
abbrev pub IsErrorMade : model.World → Text → Option ℕ → List (Text × Value) → model.World → Option ℕ → Type 0
IsErrorMade old message cause details new (Some number) =
    let made = makes_error old message cause details in
    (number ≡ next_error old) × (new ≡ made) × (nat_le (cells made.heap) most_cells ≡ true)
IsErrorMade old message cause details new None =
    (new ≡ old) × (nat_le (cells (makes_error old message cause details).heap) most_cells ≡ false)

-- what is left of a room when so much of it is taken, where it is there
abbrev pub IsLeft : ℕ → ℕ → Option ℕ → Type 0
IsLeft room taken (Some left) = left + taken ≡ room
IsLeft room taken None = room < taken

-- the result where it is an int, and none where it is not
abbrev pub IsGiven : ℤ → Option ℤ → Type 0
IsGiven z (Some n) = IsInt z × (n ≡ z)
IsGiven z None = ¬ (IsInt z)
