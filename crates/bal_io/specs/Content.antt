-- What the calls on the outside say of content, where an object tells it.
use Rattle.std.specs.Prelude.{◌≡◌, ◌<◌, ◌≤◌, ◌-◌, ◌==◌, ◌++◌, ◌⊎◌, ⊤, ℕ, List, [], Option, Some, None, Bool, true, false, IfSome, length, map, slice_get, slice_index, nat_lt, take, drop, if◌then◌else◌, ◌&&◌}
use Rattle.std.specs.List.{before_first, after_first}
use Rattle.bal_io.specs.declared.outside.Line.{Line}

abbrev pub is_line_feed : ℕ → Bool
is_line_feed b = b == 10

-- a relation of what is told before a call and after it; an object goes on telling or not telling
abbrev pub Told : (List ℕ → List ℕ → Type 0) → Option (List ℕ) → Option (List ℕ) → Type 0
Told R (Some old) (Some new) = R old new
Told R None None = ⊤
Told R _ _ = ⊥

-- the folder has a file with the number, as far as it tells
abbrev pub CanOpen : Option (List (List ℕ × List ℕ)) → ℕ → Type 0
CanOpen files i = IfSome files (λ all. i < length all)

-- the file with the number has the name
abbrev pub IsNameAt : List (List ℕ × List ℕ) → ℕ → List ℕ → Type 0
IsNameAt all i name = slice_get (map (λ f. f.0) all) i ≡ Some name

-- the bytes are the first n of the file with the number, or all where there are fewer
abbrev pub IsFrontAt : List (List ℕ × List ℕ) → ℕ → ℕ → List ℕ → Type 0
IsFrontAt all i n bytes = slice_get (map (λ f. take n f.1) all) i ≡ Some bytes

abbrev pub IsPrefixOf : List ℕ → List ℕ → Type 0
IsPrefixOf front all = (rest : List ℕ) × (front ++ rest ≡ all)

abbrev pub Appends : List ℕ → List ℕ → List ℕ → Type 0
Appends bytes old new = new ≡ old ++ bytes

-- some first part of the bytes was appended
abbrev pub AppendsFront : List ℕ → List ℕ → List ℕ → Type 0
AppendsFront bytes old new = (front : List ℕ) × IsPrefixOf front bytes × (new ≡ old ++ front)

-- some first part was taken
abbrev pub LosesFront : List ℕ → List ℕ → Type 0
LosesFront old new = (front : List ℕ) × (front ++ new ≡ old)

-- the bytes up to the first line feed, or all where there is none
abbrev pub first_line : List ℕ → List ℕ
first_line rest = before_first is_line_feed rest

-- a line without a carriage return at its end
abbrev pub without_return : List ℕ → List ℕ
without_return line =
    let size = length line in
    if nat_lt 0 size && (slice_index line (size - 1) == 13) then take (size - 1) line else line

-- the first line as it is given: a carriage return is left out only where a line feed follows it
abbrev pub line_text : List ℕ → List ℕ
line_text rest =
    if nat_lt (length (first_line rest)) (length rest) then without_return (first_line rest) else rest

-- a line that fits is given whole, and its line feed is taken with it
abbrev pub GivesWhole : ℕ → Line → List ℕ → List ℕ → Type 0
GivesWhole max line old new =
    (length (first_line old) ≤ max) × (line.whole ≡ true) × (line.bytes ≡ line_text old) × (new ≡ after_first is_line_feed old)

-- of a longer one the first bytes are given and taken
abbrev pub GivesCut : ℕ → Line → List ℕ → List ℕ → Type 0
GivesCut max line old new =
    (max < length (first_line old)) × (line.whole ≡ false) × (line.bytes ≡ take max old) × (new ≡ drop max old)

-- a line that is given of the rest, and what is left after it
abbrev pub GivesLine : ℕ → Line → List ℕ → List ℕ → Type 0
GivesLine max line old new = GivesWhole max line old new ⊎ GivesCut max line old new

-- what a call for the next line gives of the rest, and what it leaves
abbrev pub ReadsLine : ℕ → Option Line → List ℕ → List ℕ → Type 0
ReadsLine max None old new = (old ≡ []) × (new ≡ [])
ReadsLine max (Some line) old new = (0 < length old) × GivesLine max line old new
