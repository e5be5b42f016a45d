-- The signs behind a type that make another one of it.
use Rattle.std.specs.Prelude.{Bool, true}
use Rattle.bal_base.specs.declared.token.TokenKind.TheVariants.{Int as IntKind}
use Rattle.bal_base.specs.declared.token.Sign.TheVariants.{Question, OpenBracket, CloseBracket}
use Rattle.bal_tree.specs.Pieces.{Pieces, ◌&◌, token, sign}
use Rattle.bal_tree.specs.TypeRules.{is_length}
use Rattle.parse_types.specs.declared.suffixes.Suffix.{Suffix}
use Rattle.parse_types.specs.declared.suffixes.Suffix.TheVariants.{Optional, Array, FixedArray}

abbrev pub suffix_pieces : Suffix → Pieces
suffix_pieces Optional = sign Question
suffix_pieces Array = sign OpenBracket & sign CloseBracket
suffix_pieces (FixedArray n) = sign OpenBracket & token (IntKind n) & sign CloseBracket

abbrev pub suffix_fits : Suffix → Bool
suffix_fits Optional = true
suffix_fits Array = true
suffix_fits (FixedArray n) = is_length n
