-- The kids of each number, as a plain program is given them.
use Rattle.std.specs.Prelude.{ℕ, List, [], get_or}

-- a number behind the last one has none
abbrev pub kids_at : List (List ℕ) → ℕ → List ℕ
kids_at kids n = get_or kids n []
