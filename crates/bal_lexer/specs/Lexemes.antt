-- What stands in a source text: each kind of token, white space, comments, and the forms that are left
-- out. A text is its list of code points.
use Rattle.std.specs.Prelude.{◌≡◌, ◌≢◌, ℕ, ◌≤◌, Bool, true, false, not, ◌||◌, ◌==◌, ◌⊎◌, pos, List, [], ◌∷◌, ◌++◌, length, codes, Contains}
use Rattle.std.specs.List.{list_all}
use Rattle.std.specs.Char.{IsScalar, is_ascii_digit, is_ascii_hexdigit}
use Rattle.std.specs.Str.Parse.{digits_value}
use Rattle.unicode_ident.specs.Ident.{is_xid_start, is_xid_continue}
use Rattle.bal_base.specs.Limits.{greatest_int}
use Rattle.bal_base.specs.declared.token.TokenKind.TheVariants as kind
use Rattle.bal_base.specs.declared.token.Keyword.{Keyword}
use Rattle.bal_base.specs.declared.token.Sign.TheVariants as sign
use Rattle.bal_lexer.specs.Spellings.{keyword_text, sign_text, left_out_words}
use Rattle.bal_lexer.specs.declared.lexeme.Lexeme.{Lexeme}
use Rattle.bal_lexer.specs.declared.lexeme.Lexeme.TheVariants.{Gap, LeftOut, Token}

-- space, tab, line feed and carriage return
abbrev pub is_white : ℕ → Bool
is_white c = ((c == 32) || (c == 9)) || ((c == 10) || (c == 13))

abbrev pub IsWhite : List ℕ → Type 0
IsWhite slice = (c : ℕ) × (slice ≡ c ∷ []) × (is_white c ≡ true)

-- `//` or `#`, and then no line feed
abbrev pub IsComment : List ℕ → Type 0
IsComment slice = (body : List ℕ) × ((slice ≡ codes "//" ++ body) ⊎ (slice ≡ codes "#" ++ body))
    × (list_all (λ c. not (c == 10)) body ≡ true)

-- what a word begins with
abbrev pub starts_word : ℕ → Bool
starts_word c = (c == 95) || is_xid_start c

abbrev pub IsWord : List ℕ → Type 0
IsWord slice = (c : ℕ) × (cs : List ℕ) × (slice ≡ c ∷ cs) × (starts_word c ≡ true) × (list_all is_xid_continue cs ≡ true)

-- a word that is the program's own: no word of the language, none of the left-out words, and not `_`
pub record IsFree (slice : List ℕ) : Type 0 where
  pub no_keyword : (k : Keyword) → slice ≢ keyword_text k
  pub not_left_out : Contains left_out_words slice → ⊥
  pub no_sign : slice ≢ sign_text sign.Underscore

-- one digit or more
abbrev pub AreDigits : (ℕ → Bool) → List ℕ → Type 0
AreDigits is_digit digits = (digits ≢ []) × (list_all is_digit digits ≡ true)

-- `0`, or digits of which the first isn't 0
abbrev pub IsDecimal : List ℕ → Type 0
IsDecimal slice = (slice ≡ codes "0") ⊎ ((c : ℕ) × (cs : List ℕ) × (slice ≡ c ∷ cs) × (c ≢ 48) × (list_all is_ascii_digit slice ≡ true))

-- the slice writes the number: in decimal digits, or in hexadecimal digits after `0x` or `0X`
abbrev pub IsIntLiteral : List ℕ → ℕ → Type 0
IsIntLiteral slice n =
    (IsDecimal slice × (n ≡ digits_value 10 slice))
    ⊎ ((digits : List ℕ) × ((slice ≡ codes "0x" ++ digits) ⊎ (slice ≡ codes "0X" ++ digits)) × AreDigits is_ascii_hexdigit digits × (n ≡ digits_value 16 digits))

-- the text begins with such a character
abbrev pub begins_with : (ℕ → Bool) → List ℕ → Bool
begins_with test [] = false
begins_with test (c ∷ cs) = test c

-- digits, a point and a digit, as a number with a fraction begins
abbrev pub IsFraction : List ℕ → Type 0
IsFraction slice = (digits : List ℕ) × (d : ℕ) × (slice ≡ digits ++ 46 ∷ d ∷ []) × AreDigits is_ascii_digit digits × (is_ascii_digit d ≡ true)

-- what stands for itself in a string literal: all but `"`, `\`, line feed and carriage return
abbrev pub is_plain : ℕ → Bool
is_plain c = not (((c == 34) || (c == 92)) || ((c == 10) || (c == 13)))

-- the character that a `\` and this letter stand for
abbrev pub IsEscape : ℕ → ℕ → Type 0
IsEscape letter c = ((letter ≡ 92) × (c ≡ 92)) ⊎ ((letter ≡ 34) × (c ≡ 34)) ⊎ ((letter ≡ 110) × (c ≡ 10)) ⊎ ((letter ≡ 114) × (c ≡ 13)) ⊎ ((letter ≡ 116) × (c ≡ 9))

-- the piece of a string literal stands for the character: itself, an escape by a letter, or an escape by the
-- hexadecimal number of a code point that is no surrogate
abbrev pub StandsFor : List ℕ → ℕ → Type 0
StandsFor piece c =
    ((piece ≡ c ∷ []) × (is_plain c ≡ true))
    ⊎ ((letter : ℕ) × (piece ≡ 92 ∷ letter ∷ []) × IsEscape letter c)
    ⊎ ((digits : List ℕ) × (piece ≡ codes "\\u{" ++ digits ++ codes "}") × AreDigits is_ascii_hexdigit digits
    × (length digits ≤ 6) × (c ≡ digits_value 16 digits) × IsScalar c)

-- the pieces of the body stand for the characters of the text, in order
abbrev pub Spells : List ℕ → List ℕ → Type 0
Spells body [] = body ≡ []
Spells body (c ∷ text) = (piece : List ℕ) × (rest : List ℕ) × (body ≡ piece ++ rest) × StandsFor piece c × Spells rest text

abbrev pub IsStringLiteral : List ℕ → List ℕ → Type 0
IsStringLiteral slice text = (body : List ℕ) × (slice ≡ 34 ∷ body ++ 34 ∷ []) × Spells body text

-- backquote, `'`, `@`, `~` and `^`
abbrev pub is_left_out_mark : ℕ → Bool
is_left_out_mark c = ((c == 96) || (c == 39)) || ((c == 64) || ((c == 126) || (c == 94)))

abbrev pub IsLeftOutMark : List ℕ → Type 0
IsLeftOutMark slice = (c : ℕ) × (slice ≡ c ∷ []) × (is_left_out_mark c ≡ true)

-- The slice is the lexeme, where `after` follows it in the text. An int literal is at most the greatest int,
-- and no character of a word follows it.
abbrev pub IsLexeme : List ℕ → List ℕ → Lexeme → Type 0
IsLexeme slice after Gap = IsWhite slice ⊎ IsComment slice
IsLexeme slice after LeftOut = (IsWord slice × Contains left_out_words slice) ⊎ IsFraction slice ⊎ IsLeftOutMark slice
IsLexeme slice after (Token (kind.Word name)) = IsWord slice × IsFree slice × (name ≡ slice)
IsLexeme slice after (Token (kind.Keyword k)) = IsWord slice × (slice ≡ keyword_text k)
IsLexeme slice after (Token (kind.Int i)) = (n : ℕ) × IsIntLiteral slice n × (n ≤ greatest_int) × (i ≡ pos n) × (begins_with is_xid_continue after ≡ false)
IsLexeme slice after (Token (kind.Str text)) = IsStringLiteral slice text
IsLexeme slice after (Token (kind.Sign s)) = slice ≡ sign_text s
