-- What a word is, as `word` reads it. The meaning stands in `Lexemes` and `Spellings`: a lemma for each shows that
-- this is the same.
use Rattle.std.specs.Prelude.{◌≡◌, ℕ, List, Contains}
use Rattle.bal_base.specs.declared.token.TokenKind.TheVariants as kind
use Rattle.bal_base.specs.declared.token.Sign.TheVariants as sign
use Rattle.bal_lexer.specs.Spellings.{keyword_text, sign_text, left_out_words}
use Rattle.bal_lexer.specs.declared.lexeme.Lexeme.{Lexeme}
use Rattle.bal_lexer.specs.declared.lexeme.Lexeme.TheVariants.{Gap, LeftOut, Token}
use Rattle.bal_lexer.specs.Lexemes.{IsFree}

-- what the word is as a lexeme
abbrev pub Means : List ℕ → Lexeme → Type 0
Means word Gap = ⊥
Means word LeftOut = Contains left_out_words word
Means word (Token (kind.Word name)) = IsFree word × (name ≡ word)
Means word (Token (kind.Keyword k)) = word ≡ keyword_text k
Means word (Token (kind.Int i)) = ⊥
Means word (Token (kind.Str text)) = ⊥
Means word (Token (kind.Sign s)) = (word ≡ sign_text s) × (s ≡ sign.Underscore)
