-- A whole text as tokens, and where a text is refused.
use Rattle.std.specs.Prelude.{◌≡◌, ◌≢◌, ℕ, ◌+◌, ◌<◌, ◌≤◌, List, [], ◌∷◌, ◌++◌, length, encode_utf8_all, IsCharBoundary, ◌⊎◌, Some, IsSomeAnd}
use Rattle.bal_base.specs.declared.token.TokenKind.{TokenKind}
use Rattle.bal_base.specs.declared.token.Token.{Token as TokenOf}
use Rattle.bal_base.specs.declared.fault.FaultCode.{FaultCode}
use Rattle.bal_base.specs.declared.fault.FaultCode.TheVariants as code
use Rattle.bal_base.specs.declared.fault.Fault.{Fault}
use Rattle.bal_base.specs.declared.fault.Kept.TheVariants as kept
use Rattle.bal_lexer.specs.declared.lexeme.Lexeme.{Lexeme}
use Rattle.bal_lexer.specs.declared.lexeme.Lexeme.TheVariants.{Gap, LeftOut, Token}
use Rattle.bal_lexer.specs.Lexemes.{IsLexeme}

-- how many bytes of UTF-8 the characters take
abbrev pub byte_len : List ℕ → ℕ
byte_len slice = length (encode_utf8_all slice)

-- The text begins with the lexeme, whose slice is the longest of all lexemes that stand there, whatever
-- they are.
pub record Begins (text slice after : List ℕ) (lexeme : Lexeme) : Type 0 where
  pub split : text ≡ slice ++ after
  pub stands : IsLexeme slice after lexeme
  pub longest : (other rest : List ℕ) (any : Lexeme) → text ≡ other ++ rest → IsLexeme other rest any → length other ≤ length slice

-- no lexeme stands at the text's front
abbrev pub NothingBegins : List ℕ → Type 0
NothingBegins text = (slice after : List ℕ) (any : Lexeme) → text ≡ slice ++ after → IsLexeme slice after any → ⊥

-- the token of the kind whose slice begins at a place
abbrev pub token_at : ℕ → List ℕ → TokenKind → TokenOf
token_at at slice kind = record { kind = kind; at = at; end = at + byte_len slice }

-- What is left of a text from the byte `at` on is white space, comments and the slices of the tokens, in
-- order, each the longest at its place.
pub data LexesFrom : ℕ → List ℕ → List TokenOf → Type 0 where
  ends : (at : ℕ) → LexesFrom at [] []
  passes : (at : ℕ) (text slice after : List ℕ) (tokens : List TokenOf) → Begins text slice after Gap
      → LexesFrom (at + byte_len slice) after tokens → LexesFrom at text tokens
  takes : (at : ℕ) (text slice after : List ℕ) (kind : TokenKind) (tokens : List TokenOf) → Begins text slice after (Token kind)
      → LexesFrom (at + byte_len slice) after tokens → LexesFrom at text (token_at at slice kind ∷ tokens)

-- the text is these tokens
abbrev pub Lexes : List ℕ → List TokenOf → Type 0
Lexes text tokens = LexesFrom 0 text tokens

-- Each slice has a byte or more, stands between characters of the text, and begins no earlier than the
-- slice before it ends, which is at `from`.
abbrev pub AreSpans : List ℕ → ℕ → List TokenOf → Type 0
AreSpans bytes from [] = from ≤ length bytes
AreSpans bytes from (t ∷ tokens) =
    (from ≤ t.at) × (t.at < t.end) × IsCharBoundary bytes t.at × IsCharBoundary bytes t.end × AreSpans bytes t.end tokens

-- What is left of a text from the byte `at` on is refused at a place, the first at which a left-out form
-- stands or no lexeme does.
pub data RefusesFrom : ℕ → List ℕ → FaultCode → ℕ → Type 0 where
  left_out : (at : ℕ) (text slice after : List ℕ) → Begins text slice after LeftOut → RefusesFrom at text code.LeftOut at
  bad_token : (at : ℕ) (text : List ℕ) → text ≢ [] → NothingBegins text → RefusesFrom at text code.BadToken at
  past_gap : (at : ℕ) (text slice after : List ℕ) (code : FaultCode) (place : ℕ) → Begins text slice after Gap
      → RefusesFrom (at + byte_len slice) after code place → RefusesFrom at text code place
  past_token : (at : ℕ) (text slice after : List ℕ) (kind : TokenKind) (code : FaultCode) (place : ℕ) → Begins text slice after (Token kind)
      → RefusesFrom (at + byte_len slice) after code place → RefusesFrom at text code place

-- the text is refused so, at this byte
abbrev pub Refuses : List ℕ → FaultCode → ℕ → Type 0
Refuses text code at = RefusesFrom 0 text code at

-- the text is tokens, or is refused somewhere
abbrev pub HasReading : List ℕ → Type 0
HasReading text = ((tokens : List TokenOf) × Lexes text tokens) ⊎ ((code : FaultCode) × (at : ℕ) × Refuses text code at)

-- the fault has this code and this place in the file, and shows nothing more
abbrev pub IsFaultAt : ℕ → FaultCode → ℕ → Fault → Type 0
IsFaultAt file code at fault = (fault.code ≡ code) × (fault.at ≡ Some (record { file = file; at = at })) × (fault.kept ≡ kept.Nothing)

-- the fault says where the text of the file is refused, and why
abbrev pub IsRefusal : List ℕ → ℕ → Fault → Type 0
IsRefusal text file fault = (at : ℕ) × Refuses text fault.code at × IsFaultAt file fault.code at fault

-- no token stands somewhere, or a left-out form does
abbrev pub IsTokenFault : Fault → Type 0
IsTokenFault fault = (fault.code ≡ code.BadToken) ⊎ (fault.code ≡ code.LeftOut)

-- the fault has a place in the text, where a character begins
abbrev pub StandsIn : List ℕ → Fault → Type 0
StandsIn bytes fault = IsSomeAnd fault.at (λ place. (place.at < length bytes) × IsCharBoundary bytes place.at)
