-- Where tokens stand in a text, where a fault of them stands too.
use Rattle.std.proofs.Common.{ℕ, zero, suc, ◌<◌, List, [], ◌∷◌, length, subst, arith}
use Rattle.std.specs.Prelude.{drop}
use Rattle.std.specs.Str.{IsCharBoundary, IsUtf8}
use Rattle.std.proofs.lemmas.Str.{IsCharBoundary-start}
use Rattle.bal_base.specs.declared.token.Token.{Token}
use Rattle.bal_lexer.specs.Lexes.{AreSpans}
use Rattle.bal_tree.specs.Pieces.{Pieces, nothing, token, starts, ◌&◌}
use Rattle.bal_tree.specs.Spells.{Spells, first_place}

-- what is left of tokens of the text is tokens of it
pub AreTokens : List ℕ → List Token → Type 0
AreTokens text tokens = (from : ℕ) × AreSpans text from tokens

pub of-spans : (text : List ℕ) (from : ℕ) (tokens : List Token) → AreSpans text from tokens → AreTokens text tokens
unfolding AreTokens
of-spans text from tokens h = (from, h)

behind-one : (text : List ℕ) (t : Token) (tokens : List Token) → AreTokens text (t ∷ tokens) → AreTokens text tokens
unfolding AreTokens
behind-one text t tokens h = (t.end, h.1.4)

pub behind-pieces : (text : List ℕ) (file : ℕ) (p : Pieces) (tokens rest : List Token) → Spells file p tokens rest → AreTokens text tokens → AreTokens text rest
behind-pieces text file nothing tokens rest s h = subst (AreTokens text) s h
behind-pieces text file (token k) tokens rest s h = behind-one text s.first rest (subst (AreTokens text) s.splits h)
behind-pieces text file (starts at) tokens rest s h = subst (AreTokens text) s.1 h
behind-pieces text file (p & q) tokens rest s h = behind-pieces text file q s.0 rest s.2 (behind-pieces text file p tokens s.0 s.1 h)

pub behind-some : (text : List ℕ) (i : ℕ) (tokens : List Token) → AreTokens text tokens → AreTokens text (drop i tokens)
behind-some text zero tokens h = h
behind-some text (suc i) [] h = h
behind-some text (suc i) (t ∷ tokens) h = behind-some text i tokens (behind-one text t tokens h)

-- the place of the first of them
pub first-placed : (file : ℕ) (text : List ℕ) (tokens : List Token) → IsUtf8 text → length text < 4294967295 → AreTokens text tokens → IsCharBoundary text (first_place file tokens).at × ((first_place file tokens).at < 4294967295)
unfolding AreTokens
first-placed file text [] u small h = (IsCharBoundary-start text u, omega arith)
first-placed file text (t ∷ tokens) u small h = (h.1.2, let before = h.1.1 in let within = h.1.3.0 in omega arith)
