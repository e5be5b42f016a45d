-- Words, names and literals, written out.
use Rattle.bal_base.specs.declared.token.TokenKind.TheVariants.{Word as WordKind, Int as IntKind, Str as StrKind}
use Rattle.bal_base.specs.declared.token.Keyword.TheVariants.{Int as IntKey, True as TrueKey, False as FalseKey}
use Rattle.bal_base.specs.declared.token.Sign.TheVariants.{Colon, Minus, OpenParen, CloseParen}
use Rattle.bal_tree.specs.declared.name.Word.{Word}
use Rattle.bal_tree.specs.declared.name.Prefix.{Prefix}
use Rattle.bal_tree.specs.declared.name.Prefix.TheVariants.{Word as WordPrefix, Int as IntPrefix}
use Rattle.bal_tree.specs.declared.name.QualifiedName.{QualifiedName}
use Rattle.bal_tree.specs.declared.name.Literal.{Literal}
use Rattle.bal_tree.specs.declared.name.Literal.TheVariants.{Int, Str, True, False, Nil}
use Rattle.bal_tree.specs.declared.name.ConstValue.{ConstValue}
use Rattle.bal_tree.specs.declared.name.ConstValue.TheVariants.{Literal as LiteralValue, Negative}
use Rattle.bal_tree.specs.Pieces.{Pieces, token, starts, ◌&◌, key, sign, if_there}

abbrev pub word_pieces : Word → Pieces
word_pieces w = starts w.at & token (WordKind w.name)

abbrev pub prefix_pieces : Prefix → Pieces
prefix_pieces (WordPrefix w) = word_pieces w & sign Colon
prefix_pieces (IntPrefix at) = starts at & key IntKey & sign Colon

abbrev pub name_pieces : QualifiedName → Pieces
name_pieces n = starts n.at & if_there prefix_pieces n.prefix & word_pieces n.word

abbrev pub literal_pieces : Literal → Pieces
literal_pieces (Int value at) = starts at & token (IntKind value)
literal_pieces (Str text at) = starts at & token (StrKind text)
literal_pieces (True at) = starts at & key TrueKey
literal_pieces (False at) = starts at & key FalseKey
literal_pieces (Nil at) = starts at & sign OpenParen & sign CloseParen

abbrev pub const_pieces : ConstValue → Pieces
const_pieces (LiteralValue l) = literal_pieces l
const_pieces (Negative int at) = starts at & sign Minus & token (IntKind int)
