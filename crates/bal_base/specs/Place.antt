-- Where a place stands in a text, given the code points before it.
use Rattle.std.specs.Prelude.{ℕ, ◌+◌, ◌==◌, List, not, count_by}
use Rattle.std.specs.List.{suffix_len}

-- the line after these code points: one more than the line feeds among them
abbrev pub line_after : List ℕ → ℕ
line_after before = count_by (λ c. c == 10) before + 1

-- the column after these code points: one more than the code points after the last line feed
abbrev pub column_after : List ℕ → ℕ
column_after before = suffix_len (λ c. not (c == 10)) before + 1
