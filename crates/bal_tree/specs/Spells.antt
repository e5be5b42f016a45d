-- Which tokens are those of a tree.
use Rattle.std.specs.Prelude.{◌≡◌, ℕ, List, [], ◌∷◌}
use Rattle.bal_base.specs.declared.place.Place.{Place}
use Rattle.bal_base.specs.declared.token.Token.{Token}
use Rattle.bal_base.specs.declared.token.TokenKind.{TokenKind}
use Rattle.bal_tree.specs.Pieces.{Pieces, nothing, token, starts, ◌&◌}

-- the place of the first of these tokens of the file with this number; where there is none, the file's start
abbrev pub first_place : ℕ → List Token → Place
first_place file [] = record { file = file; at = 0 }
first_place file (t ∷ tokens) = record { file = file; at = t.at }

-- the first of the tokens is of this kind, and these stand behind it
pub record Heads (kind : TokenKind) (tokens rest : List Token) : Type 0 where
  pub first : Token
  pub splits : tokens ≡ first ∷ rest
  pub is : first.kind ≡ kind

-- the tokens of the file with this number are those of the pieces and behind them the rest, and each place is that of the
-- token behind it
abbrev pub Spells : ℕ → Pieces → List Token → List Token → Type 0
Spells file nothing tokens rest = tokens ≡ rest
Spells file (token kind) tokens rest = Heads kind tokens rest
Spells file (starts at) tokens rest = (at ≡ first_place file tokens) × (tokens ≡ rest)
Spells file (p & q) tokens rest = (middle : List Token) × Spells file p tokens middle × Spells file q middle rest

-- the kinds of the tokens
abbrev pub kinds_of : List Token → List TokenKind
kinds_of [] = []
kinds_of (t ∷ tokens) = t.kind ∷ kinds_of tokens

-- the tokens of the pieces, and behind them these
abbrev pub onto : Pieces → List TokenKind → List TokenKind
onto nothing ks = ks
onto (token kind) ks = kind ∷ ks
onto (starts at) ks = ks
onto (p & q) ks = onto p (onto q ks)
