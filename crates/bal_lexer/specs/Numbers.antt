-- What stands where a digit does, as `number` reads it. The meaning stands in `Lexemes` (IsIntLiteral, IsFraction):
-- proofs/NumberFirst shows that this is the longest of those.
use Rattle.std.specs.Prelude.{ℕ, not, ◌&&◌, ◌||◌, ◌==◌, nat_le, nat_lt, if◌then◌else◌, pos, List, [], ◌∷◌, length, Option, Some, None}
use Rattle.std.specs.Option.{option_map_or}
use Rattle.std.specs.Char.{is_ascii_digit, is_ascii_hexdigit}
use Rattle.std.specs.Str.Parse.{digits_value}
use Rattle.unicode_ident.specs.Ident.{is_xid_continue}
use Rattle.bal_base.specs.Limits.{greatest_int}
use Rattle.bal_base.specs.declared.token.TokenKind.TheVariants as kind
use Rattle.bal_lexer.specs.declared.lexeme.Lexeme.{Lexeme}
use Rattle.bal_lexer.specs.declared.lexeme.Lexeme.TheVariants.{LeftOut, Token}
use Rattle.bal_lexer.specs.Lexemes.{begins_with}
use Rattle.bal_lexer.specs.Runs.{run, after_run}

-- the digits that the text begins with, and what follows them
abbrev pub digits_of : List ℕ → List ℕ
digits_of text = run is_ascii_digit text

abbrev pub after_digits : List ℕ → List ℕ
after_digits text = after_run is_ascii_digit text

-- what follows a point and a digit
abbrev pub after_fraction : List ℕ → Option (List ℕ)
after_fraction [] = None
after_fraction (c ∷ []) = None
after_fraction (c ∷ d ∷ rest) = if (c == 46) && is_ascii_digit d then Some rest else None

-- what follows `x` or `X`
abbrev pub after_x : List ℕ → Option (List ℕ)
after_x [] = None
after_x (c ∷ rest) = if (c == 120) || (c == 88) then Some rest else None

-- the int that the digits write, if it is one and the literal ends there
unfoldable pub int_at : ℕ → List ℕ → List ℕ → Option (Lexeme × List ℕ)
int_at radix digits after =
    if (not (begins_with is_xid_continue after) && nat_lt 0 (length digits)) && nat_le (digits_value radix digits) greatest_int
    then Some (Token (kind.Int (pos (digits_value radix digits))), after) else None

-- the same of the hexadecimal digits that the text begins with
abbrev pub hexadecimal_at : List ℕ → Option (Lexeme × List ℕ)
hexadecimal_at text = int_at 16 (run is_ascii_hexdigit text) (after_run is_ascii_hexdigit text)

-- the same of what follows a `0` that the literal begins with
abbrev pub zero_at : List ℕ → Option (Lexeme × List ℕ)
zero_at after = option_map_or hexadecimal_at (after_x after) (int_at 10 (48 ∷ []) after)

-- the literal that the text begins with
abbrev pub literal_at : List ℕ → Option (Lexeme × List ℕ)
literal_at [] = None
literal_at (c ∷ cs) = if c == 48 then zero_at cs else int_at 10 (run is_ascii_digit (c ∷ cs)) (after_run is_ascii_digit (c ∷ cs))

-- the literal, or the number with a fraction
abbrev pub number_at : List ℕ → Option (Lexeme × List ℕ)
number_at text = option_map_or (λ rest. Some (LeftOut, rest)) (after_fraction (after_run is_ascii_digit text)) (literal_at text)
