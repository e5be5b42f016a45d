-- When two inputs give the same lines.
use Rattle.std.specs.Prelude.{◌≡◌, ℕ, List, [], Some}
use Rattle.bal_io.specs.Content.{ReadsLine}
use Rattle.bal_io.specs.declared.outside.Line.{Line}
use Rattle.op_model.specs.Limits.{most_line_bytes}

-- each call for a line of at most so many bytes is given the same by both, and both end at once
pub data GiveSame (max : ℕ) : List ℕ → List ℕ → Type 0 where
  at_end : GiveSame max [] []
  by_line : {line : Line} {old new other left : List ℕ} → ReadsLine max (Some line) old new → ReadsLine max (Some line) other left → GiveSame max new left → GiveSame max old other

-- the input was read to its end, and the bytes give the same lines to a program
abbrev pub IsReadWhole : List ℕ → List ℕ → List ℕ → Type 0
IsReadWhole bytes old new = GiveSame most_line_bytes old bytes × (new ≡ [])
