-- What may stand behind an expression and make another one of it: calls, fields and indices.
use Rattle.std.specs.Prelude.{◌≡◌, Bool, true, false, map}
use Rattle.std.specs.List.{list_all}
use Rattle.bal_base.specs.declared.token.Sign.TheVariants.{OpenBracket, CloseBracket, Dot, QuestionDot}
use Rattle.bal_tree.specs.Pieces.{Pieces, ◌&◌, sign}
use Rattle.bal_tree.specs.NamePieces.{word_pieces}
use Rattle.bal_tree.specs.ExprPieces.{arguments, expr_pieces}
use Rattle.bal_tree.specs.ExprRules.{expr_is_formed}
use Rattle.token_steps.specs.Tokens.{Kinds}
use Rattle.parse_expr.specs.Reaches.{Left}
use Rattle.parse_expr.specs.declared.suffixes.Suffix.{Suffix}
use Rattle.parse_expr.specs.declared.suffixes.Suffix.TheVariants.{Arguments, Method, Field, OptionalField, Index}

abbrev pub suffix_pieces : Suffix → Pieces
suffix_pieces (Arguments args) = arguments (map expr_pieces args.items)
suffix_pieces (Method name args) = sign Dot & word_pieces name & arguments (map expr_pieces args.items)
suffix_pieces (Field name) = sign Dot & word_pieces name
suffix_pieces (OptionalField name) = sign QuestionDot & word_pieces name
suffix_pieces (Index e) = sign OpenBracket & expr_pieces e.value & sign CloseBracket

abbrev pub suffix_is_formed : Suffix → Bool
suffix_is_formed (Arguments args) = list_all (λ e. expr_is_formed e false) args.items
suffix_is_formed (Method name args) = list_all (λ e. expr_is_formed e false) args.items
suffix_is_formed (Field name) = true
suffix_is_formed (OptionalField name) = true
suffix_is_formed (Index e) = expr_is_formed e.value false

abbrev pub is_field : Suffix → Bool
is_field (Arguments args) = false
is_field (Method name args) = false
is_field (Field name) = true
is_field (OptionalField name) = false
is_field (Index e) = false

-- `.f` and arguments behind it are the call of a method, so no arguments stand behind an expression that ends in `.f`
abbrev pub MayFollow : Bool → Suffix → Type 0
MayFollow ends_in_field (Arguments args) = ends_in_field ≡ false
MayFollow ends_in_field (Method name args) = Unit {0}
MayFollow ends_in_field (Field name) = Unit {0}
MayFollow ends_in_field (OptionalField name) = Unit {0}
MayFollow ends_in_field (Index e) = Unit {0}

abbrev pub suffix_left : Suffix → Kinds → Left
suffix_left s ks = record { is_field = is_field s; rest = ks }
