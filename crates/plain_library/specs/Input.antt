-- Bytes that are read, and what an operation on the world comes to where they are taken and something is written.
use Rattle.std.specs.Prelude.{◌≡◌, ◌++◌, ℕ, List, Option, Some, None, chars, drop, encode_utf8_all, IsUtf8}
use Rattle.bal_base.specs.declared.text.Text.{Text}
use Rattle.value_model.specs.World.{World, Came, Gave, Threw, PassesCells}

-- the text of the bytes, where they are one
abbrev pub IsTextIn : List ℕ → Option Text → Type 0
IsTextIn bytes (Some t) = IsUtf8 bytes × (t ≡ chars bytes)
IsTextIn bytes None = ¬ (IsUtf8 bytes)

-- so many bytes of the input are taken, and the text is written
abbrev pub behind : ℕ → Text → World → World
behind n t w = record { heap = w.heap; input = drop n w.input; output = w.output ++ encode_utf8_all t }

-- the same of what came
abbrev pub came_behind : ℕ → Text → Came → Came
came_behind n t (Gave vs w) = Gave vs (behind n t w)
came_behind n t (Threw e w) = Threw e (behind n t w)
came_behind n t PassesCells = PassesCells
