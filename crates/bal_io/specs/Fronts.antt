-- The front of some bytes, as far as a line goes, and how a line is read from front to front.
use Rattle.std.specs.Prelude.{◌≡◌, ◌<◌, ◌≤◌, ◌-◌, ◌++◌, ◌∷◌, [], ℕ, List, length, take}
use Rattle.std.specs.List.{position_or_len}
use Rattle.bal_io.specs.Content.{is_line_feed, first_line}
use Rattle.bal_io.specs.declared.fronts.Extent.{Extent}
use Rattle.bal_io.specs.declared.fronts.Extent.TheVariants.{LineFeed, Full, AllTaken}
use Rattle.bal_io.specs.declared.std_source.Progress.{Progress}
use Rattle.bal_io.specs.declared.std_source.Progress.TheVariants.{Ended, Cut, AtEnd, GoesOn}

-- the text is what stands before the line feed, or is as many bytes as are asked for, or is all
abbrev pub IsLineFront : ℕ → List ℕ → Extent → List ℕ → Type 0
IsLineFront max text LineFeed bytes =
    (text ≡ first_line bytes) × (length text < length bytes) × (length text ≤ max)
IsLineFront max text Full bytes = (text ≡ take max bytes) × (max < length (first_line bytes))
IsLineFront max text AllTaken bytes =
    (text ≡ bytes) × (first_line bytes ≡ bytes) × (length bytes ≤ max)

-- no line feed is among the bytes
abbrev pub IsWithinLine : List ℕ → Type 0
IsWithinLine bytes = position_or_len is_line_feed bytes ≡ length bytes

-- what one read takes of the bytes that are left, for a line that may have `room` bytes more, and leaves
abbrev pub Takes : ℕ → Progress → List ℕ → List ℕ → List ℕ → Type 0
Takes room Ended text old new = (old ≡ text ++ 10 ∷ new) × IsWithinLine text × (length text ≤ room)
Takes room Cut text old new = (old ≡ text ++ new) × (length text ≡ room) × (room < length (first_line old))
Takes room AtEnd text old new = (text ≡ []) × (old ≡ []) × (new ≡ [])
Takes room GoesOn text old new = (old ≡ text ++ new) × IsWithinLine text × (length text ≤ room)

-- one read puts what it takes behind a line of at most `max` bytes
abbrev pub ReadsMore : ℕ → Progress → List ℕ → List ℕ → List ℕ → List ℕ → Type 0
ReadsMore max progress line more old new =
    (text : List ℕ) × (more ≡ line ++ text) × Takes (max - length line) progress text old new

-- the line that was read so far, of all that was to be read, and what is left
abbrev pub HasRead : List ℕ → List ℕ → List ℕ → Type 0
HasRead line all rest = (all ≡ line ++ rest) × IsWithinLine line
