-- How rows are counted.
use Rattle.std.specs.Prelude.{◌+◌, ◌||◌, ℕ, Bool, true, false, not, if◌then◌else◌, nat_lt}
use Rattle.row_lines.specs.Telling.{Telling}
use Rattle.row_lines.specs.declared.tally.Tally.{Tally}

-- one more where it is so, up to the last value of a 64-bit count
abbrev pub one_more_if : Bool → ℕ → ℕ
one_more_if true n = if nat_lt n 18446744073709551615 then n + 1 else n
one_more_if false n = n

-- a row that is to hold, or one that is wrong on purpose
abbrev pub with_row : Bool → Bool → Tally → Tally
with_row false fails t =
    record { rows = one_more_if true t.rows; failing = one_more_if fails t.failing; wrong = t.wrong; holding = t.holding }
with_row true fails t =
    record { rows = t.rows; failing = t.failing; wrong = one_more_if true t.wrong; holding = one_more_if (not fails) t.holding }

-- a row counts where it asks something or fails
abbrev pub counted : Bool → Telling → Tally → Tally
counted is_wrong told t = if told.asks || told.fails then with_row is_wrong told.fails t else t
