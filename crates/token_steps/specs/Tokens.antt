-- Steps over the tokens at the front, without their places.
use Rattle.std.specs.Prelude.{ℤ, if◌then◌else◌, List, [], ◌∷◌, Option, None, Some}
use denote.Enum.Bare.{sameb}
use Rattle.bal_base.specs.contracts.token.Sign.{the_type as the_signs}
use Rattle.bal_base.specs.contracts.token.Keyword.{the_type as the_keywords}
use Rattle.bal_base.specs.declared.token.TokenKind.{TokenKind}
use Rattle.bal_base.specs.declared.token.TokenKind.TheVariants.{Word as WordKind, Keyword as KeywordKind, Int as IntKind, Sign as SignKind}
use Rattle.bal_base.specs.declared.token.Keyword.{Keyword}
use Rattle.bal_base.specs.declared.token.Sign.{Sign}

abbrev pub Kinds : Type 0
Kinds = List TokenKind

-- what follows the sign
abbrev pub take_sign : Sign → Kinds → Option Kinds
take_sign s [] = None
take_sign s (SignKind x ∷ ks) = if sameb the_signs x s then Some ks else None
take_sign s (k ∷ ks) = None

-- what follows the word of the language
abbrev pub take_key : Keyword → Kinds → Option Kinds
take_key w [] = None
take_key w (KeywordKind x ∷ ks) = if sameb the_keywords x w then Some ks else None
take_key w (k ∷ ks) = None

-- what follows a word that is no keyword
abbrev pub take_word : Kinds → Option Kinds
take_word [] = None
take_word (WordKind w ∷ ks) = Some ks
take_word (k ∷ ks) = None

-- an int literal and what follows it
abbrev pub take_int : Kinds → Option (ℤ × Kinds)
take_int [] = None
take_int (IntKind n ∷ ks) = Some (n, ks)
take_int (k ∷ ks) = None
