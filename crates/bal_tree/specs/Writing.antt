-- What comes of tokens that are written to an output with room for so many.
use Rattle.std.specs.Prelude.{◌≡◌, ◌+◌, ◌-◌, ◌^◌, ℕ, List, [], ◌∷◌, ◌++◌, min, take}
use Rattle.bal_base.specs.declared.token.TokenKind.{TokenKind}
use Rattle.bal_tree.specs.Pieces.{Pieces, nothing, token, starts, ◌&◌}

-- the first tokens, for which there was room, and how many there were
pub record Written : Type 0 where
  pub tokens : List TokenKind
  pub room : ℕ
  pub count : ℕ

abbrev pub empty : ℕ → Written
empty room = record { tokens = []; room = room; count = 0 }

-- the greatest number of a `usize`
abbrev pub most : ℕ
most = 2 ^ 64 - 1

-- one token more
unfoldable pub put : TokenKind → Written → Written
put k w = record { tokens = take w.room (w.tokens ++ k ∷ []); room = w.room; count = min (w.count + 1) most }

-- the tokens of the pieces, one behind another
abbrev pub behind_all : Pieces → Written → Written
behind_all nothing w = w
behind_all (token k) w = put k w
behind_all (starts at) w = w
behind_all (p & q) w = behind_all q (behind_all p w)

-- the tokens of the pieces are written
abbrev pub Writes : Written → Pieces → Written → Type 0
Writes old pieces new = new ≡ behind_all pieces old
