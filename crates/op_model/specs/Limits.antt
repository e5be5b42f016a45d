-- The limits of a run.
use Rattle.std.specs.Prelude.{ℕ}

-- the most cells of a heap
abbrev pub most_cells : ℕ
most_cells = 33554432

-- the most items of a list
abbrev pub most_items : ℕ
most_items = 4194304

-- the most code points of a string
abbrev pub most_code_points : ℕ
most_code_points = 16777216

-- the most bytes of a line of input
abbrev pub most_line_bytes : ℕ
most_line_bytes = 67108864

-- how many calls may stand inside one another in a strand
abbrev pub most_frames : ℕ
most_frames = 4096

-- the most strands that are made in a run
abbrev pub most_strands : ℕ
most_strands = 65536
