-- The ends that lines are given, so that they are read as they were.
use Rattle.std.specs.Prelude.{◌≡◌, ◌<◌, ◌-◌, ◌==◌, ◌++◌, ◌&&◌, ℕ, Bool, true, false, List, [], ◌∷◌, Some, None, length, slice_index, nat_lt, if◌then◌else◌}
use Rattle.bal_io.specs.Content.{LosesFront, ReadsLine, first_line}
use Rattle.bal_io.specs.declared.outside.Line.{Line}
use Rattle.op_model.specs.Limits.{most_line_bytes}
use Rattle.whole_input.specs.Lines.{GiveSame}

abbrev pub ends_with_return : List ℕ → Bool
ends_with_return text = nat_lt 0 (length text) && (slice_index text (length text - 1) == 13)

-- a carriage return and a line feed, so that a carriage return in front of them stays. A line of as many bytes as a line may have has no
-- room for the first; where it ends with a carriage return the input ends with it
abbrev pub ended_by : List ℕ → List ℕ
ended_by text = if nat_lt (length text) most_line_bytes then 13 ∷ 10 ∷ [] else (if ends_with_return text then [] else 10 ∷ [])

abbrev pub line_end : Line → List ℕ
line_end line = if line.whole then ended_by line.bytes else []

abbrev pub shown : Line → List ℕ
shown line = line.bytes ++ line_end line

-- one more line was read and put behind the bytes, or none was left
abbrev pub TakesMore : Bool → List ℕ → List ℕ → List ℕ → List ℕ → Type 0
TakesMore true old new before after = (line : Line) × ReadsLine most_line_bytes (Some line) before after × (new ≡ old ++ shown line)
TakesMore false old new before after = ReadsLine most_line_bytes None before after × (new ≡ old)

-- two inputs give the same lines, and where the one's first line is not empty the other's isn't
abbrev pub AreReady : List ℕ → List ℕ → Type 0
AreReady a b = GiveSame most_line_bytes a b × (0 < length (first_line a) → 0 < length (first_line b))

-- as far as the input was read, the bytes lead to an input that gives the same lines
abbrev pub HasReadSo : List ℕ → List ℕ → List ℕ → Type 0
HasReadSo bytes old now = ((rest : List ℕ) → AreReady now rest → AreReady old (bytes ++ rest)) × LosesFront old now
