-- The longest lexeme at the front of a text, by the text's first character.
use Rattle.std.specs.Prelude.{◌≡◌, ℕ, ◌≤◌, Bool, false, true, not, ◌==◌, ◌⊎◌, if◌then◌else◌, pos, List, ◌∷◌, ◌++◌, length, Option, Some, None}
use Rattle.std.specs.List.{list_all}
use Rattle.std.specs.Char.{is_ascii_digit}
use Rattle.unicode_ident.specs.Ident.{is_xid_continue}
use Rattle.bal_base.specs.Limits.{greatest_int}
use Rattle.bal_base.specs.declared.token.TokenKind.TheVariants as kind
use Rattle.bal_base.specs.declared.token.Sign.{Sign as SignOf}
use Rattle.bal_lexer.specs.Spellings.{sign_text}
use Rattle.bal_lexer.specs.declared.lexeme.Lexeme.{Lexeme}
use Rattle.bal_lexer.specs.declared.lexeme.Lexeme.TheVariants.{Gap, LeftOut, Token}
use Rattle.bal_lexer.specs.declared.lexeme.Start.{Start}
use Rattle.bal_lexer.specs.declared.lexeme.Start.TheVariants.{White, LeftOutMark, Digit, Quote, Hash, Word, Sign}
use Rattle.bal_lexer.specs.Lexemes.{is_white, starts_word, is_left_out_mark, IsWhite, IsWord, IsFraction, IsIntLiteral, IsStringLiteral, IsLeftOutMark, begins_with}
use Rattle.bal_lexer.specs.Words.{Means}
use Rattle.bal_lexer.specs.Lexes.{Begins, NothingBegins}

-- what a character may begin
abbrev pub start_of : ℕ → Start
start_of c =
    if is_white c then White
    else if is_left_out_mark c then LeftOutMark
    else if is_ascii_digit c then Digit
    else if c == 34 then Quote
    else if c == 35 then Hash
    else if starts_word c then Word
    else Sign

abbrev pub in_line : ℕ → Bool
in_line c = not (c == 10)

-- the slice is a lexeme of those that begin so
abbrev pub AtStart : Start → List ℕ → List ℕ → Lexeme → Type 0
AtStart White slice after lexeme = (lexeme ≡ Gap) × IsWhite slice
AtStart LeftOutMark slice after lexeme = (lexeme ≡ LeftOut) × IsLeftOutMark slice
AtStart Digit slice after lexeme =
    ((lexeme ≡ LeftOut) × IsFraction slice)
    ⊎ ((n : ℕ) × (lexeme ≡ Token (kind.Int (pos n))) × IsIntLiteral slice n × (n ≤ greatest_int) × (begins_with is_xid_continue after ≡ false))
AtStart Quote slice after lexeme = (text : List ℕ) × (lexeme ≡ Token (kind.Str text)) × IsStringLiteral slice text
AtStart Hash slice after lexeme = (lexeme ≡ Gap) × ((body : List ℕ) × (slice ≡ 35 ∷ body) × (list_all in_line body ≡ true))
AtStart Word slice after lexeme = IsWord slice × Means slice lexeme
AtStart Sign slice after lexeme =
    ((lexeme ≡ Gap) × ((body : List ℕ) × (slice ≡ 47 ∷ 47 ∷ body) × (list_all in_line body ≡ true)))
    ⊎ ((g : SignOf) × (lexeme ≡ Token (kind.Sign g)) × (slice ≡ sign_text g))

-- the longest of those at the text's front
pub record LongestAt (start : Start) (text : List ℕ) (lexeme : Lexeme) (after : List ℕ) : Type 0 where
  pub slice : List ℕ
  pub split : text ≡ slice ++ after
  pub stands : AtStart start slice after lexeme
  pub longest : (other rest : List ℕ) (any : Lexeme) → text ≡ other ++ rest → AtStart start other rest any → length other ≤ length slice

-- the longest of those with what follows it, or none
abbrev pub FirstAt : Start → List ℕ → Option (Lexeme × List ℕ) → Type 0
FirstAt start text None = (slice after : List ℕ) (any : Lexeme) → text ≡ slice ++ after → AtStart start slice after any → ⊥
FirstAt start text (Some x) = LongestAt start text x.0 x.1

-- the longest lexeme with what follows it, or none
abbrev pub First : List ℕ → Option (Lexeme × List ℕ) → Type 0
First text None = NothingBegins text
First text (Some x) = (slice : List ℕ) × Begins text slice x.1 x.0
