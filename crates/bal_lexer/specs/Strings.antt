-- The pieces of a string literal, as `string` reads them from the left. The meaning stands in `Lexemes`
-- (IsStringLiteral, StandsFor): proofs/Pieces and proofs/StringFirst show that this is the same.
use Rattle.std.specs.Prelude.{◌≡◌, ℕ, ◌&&◌, ◌||◌, ◌==◌, nat_le, nat_lt, if◌then◌else◌, List, [], ◌∷◌, length, Option, Some, None, option_map, option_and_then}
use Rattle.std.specs.Char.{is_ascii_hexdigit}
use Rattle.std.specs.Str.Parse.{digits_value}
use lib.Utf8.{scalar}
use Rattle.bal_lexer.specs.Lexemes.{is_plain}
use Rattle.bal_lexer.specs.Runs.{run, after_run}

-- what follows the character
abbrev pub after_char : ℕ → List ℕ → Option (List ℕ)
after_char c [] = None
after_char c (d ∷ rest) = if d == c then Some rest else None

-- the code point that up to six hexadecimal digits write, unless it is a surrogate
unfoldable pub scalar_at : List ℕ → Option ℕ
scalar_at digits =
    if (nat_lt 0 (length digits) && nat_le (length digits) 6) && scalar (digits_value 16 digits)
    then Some (digits_value 16 digits) else None

-- the character that an escape by a number stands for, after its `u`, and what follows the escape
unfoldable pub code_point_at : List ℕ → Option (ℕ × List ℕ)
code_point_at text = option_and_then (λ rest.
    option_and_then (λ c. option_map (λ after. (c, after)) (after_char 125 (after_run is_ascii_hexdigit rest))) (scalar_at (run is_ascii_hexdigit rest)))
    (after_char 123 text)

-- the same of an escape, after its `\`
unfoldable pub escape_at : List ℕ → Option (ℕ × List ℕ)
escape_at [] = None
escape_at (letter ∷ rest) =
    if (letter == 92) || (letter == 34) then Some (letter, rest)
    else if letter == 110 then Some (10, rest)
    else if letter == 114 then Some (13, rest)
    else if letter == 116 then Some (9, rest)
    else if letter == 117 then code_point_at rest
    else None

-- the same of the first piece of a literal's body
unfoldable pub piece_at : List ℕ → Option (ℕ × List ℕ)
piece_at [] = None
piece_at (c ∷ rest) = if c == 92 then escape_at rest else if is_plain c then Some (c, rest) else None

-- pieces for the characters of the value, and then the closing quote
abbrev pub Closes : List ℕ → List ℕ → List ℕ → Type 0
Closes text [] after = text ≡ 34 ∷ after
Closes text (c ∷ value) after = (rest : List ℕ) × (piece_at text ≡ Some (c, rest)) × Closes rest value after
