-- Expressions, written out: one line for each form, in which the parts are already written out.
use Rattle.std.specs.Prelude.{List, Bool}
use Rattle.bal_base.specs.declared.token.TokenKind.TheVariants.{Str as StrKind}
use Rattle.bal_base.specs.declared.token.Keyword.TheVariants.{Check as CheckKey, CheckPanic as CheckPanicKey, Is, Trap as TrapKey, Error as ErrorKey}
use Rattle.bal_base.specs.declared.token.Sign.{Sign}
use Rattle.bal_base.specs.declared.token.Sign.TheVariants.{Minus, Not as NotSign, Star, Slash, Percent, Plus, Less as LessSign, LessEqual as LessEqualSign, Greater as GreaterSign, GreaterEqual as GreaterEqualSign, DoubleEqual, NotEqual as NotEqualSign, TripleEqual, NotTripleEqual, DoubleAmpersand, DoubleBar, Elvis as ElvisSign, Question, Colon, OpenParen, CloseParen, OpenBracket, CloseBracket, OpenBrace, CloseBrace, Dot, QuestionDot, Comma, FatArrow, Equal as EqualSign}
use Rattle.bal_tree.specs.declared.params.Params.{Params}
use Rattle.bal_tree.specs.declared.types.TypeTree.{TypeTree}
use Rattle.bal_tree.specs.declared.expr.PrefixOp.{PrefixOp}
use Rattle.bal_tree.specs.declared.expr.PrefixOp.TheVariants.{Negate, Not, Check, CheckPanic}
use Rattle.bal_tree.specs.declared.expr.BinaryOp.{BinaryOp}
use Rattle.bal_tree.specs.declared.expr.BinaryOp.TheVariants.{Multiply, Divide, Remainder, Add, Subtract, Less, LessEqual, Greater, GreaterEqual, Equal, NotEqual, Same, NotSame, And, Or, Elvis}
use Rattle.bal_tree.specs.declared.expr.Call.{Call}
use Rattle.bal_tree.specs.declared.expr.Call.TheOpen as layer
use Rattle.bal_tree.specs.declared.expr.Expr.{Expr}
use Rattle.bal_tree.specs.declared.expr.Key.{Key}
use Rattle.bal_tree.specs.declared.expr.Postfix.{Postfix}
use Rattle.bal_tree.specs.declared.expr.Primary.{Primary}
use Rattle.bal_tree.specs.declared.expr.Detail.{Detail}
use Rattle.bal_tree.specs.declared.expr.Member.{Member}
use Rattle.bal_tree.specs.Pieces.{Pieces, token, starts, ◌&◌, key, sign, if_boxed, behind, separated}
use Rattle.bal_tree.specs.NamePieces.{word_pieces, name_pieces, literal_pieces}
use Rattle.bal_tree.specs.TypePieces.{in_angles, returning, function_word, type_pieces, params_pieces}
use Rattle.bal_tree.specs.ExprLayers.{CallOf, ExprOf, KeyOf, PostfixOf, PrimaryOf, DetailOf, MemberOf, ExprSteps, of_call, of_expr, of_key, of_postfix, of_primary, of_detail, of_member}

abbrev pub prefix_op : PrefixOp → Pieces
prefix_op Negate = sign Minus
prefix_op Not = sign NotSign
prefix_op Check = key CheckKey
prefix_op CheckPanic = key CheckPanicKey

abbrev pub binary_sign : BinaryOp → Sign
binary_sign Multiply = Star
binary_sign Divide = Slash
binary_sign Remainder = Percent
binary_sign Add = Plus
binary_sign Subtract = Minus
binary_sign Less = LessSign
binary_sign LessEqual = LessEqualSign
binary_sign Greater = GreaterSign
binary_sign GreaterEqual = GreaterEqualSign
binary_sign Equal = DoubleEqual
binary_sign NotEqual = NotEqualSign
binary_sign Same = TripleEqual
binary_sign NotSame = NotTripleEqual
binary_sign And = DoubleAmpersand
binary_sign Or = DoubleBar
binary_sign Elvis = ElvisSign

-- `is T`
abbrev pub type_test : TypeTree → Pieces
type_test t = key Is & type_pieces t

-- `function (T a) returns R`, where `isolated` may stand before it
abbrev pub function_head : Bool → Params → TypeTree → Pieces
function_head isolated params result = function_word isolated & params_pieces params & returning (type_pieces result)

-- `(a, b)`
abbrev pub arguments : List Pieces → Pieces
arguments args = sign OpenParen & separated Comma args & sign CloseParen

-- `, e`
abbrev pub as_next : Pieces → Pieces
as_next e = sign Comma & e

abbrev pub expr_step : ExprOf Pieces → Pieces
expr_step (layer.Postfix e) = e
expr_step (layer.Prefix op operand at) = starts at & prefix_op op & operand.value
expr_step (layer.Cast t operand at) = starts at & in_angles (type_pieces t.value) & operand.value
expr_step (layer.Binary left op right at) = starts at & left.value & sign (binary_sign op) & right.value
expr_step (layer.TypeTest operand t at) = starts at & operand.value & type_test t.value
expr_step (layer.Conditional condition middle last at) =
    starts at & condition.value & sign Question & middle.value & sign Colon & last.value
expr_step (layer.Trap operand at) = starts at & key TrapKey & operand.value
expr_step (layer.«Expr::Function» isolated params result value at) =
    starts at & function_head isolated params result.value & sign FatArrow & value.value

abbrev pub postfix_step : PostfixOf Pieces → Pieces
postfix_step (layer.Primary e) = e
postfix_step (layer.Call e) = e
postfix_step (layer.Field base field at) = starts at & base.value & sign Dot & word_pieces field
postfix_step (layer.OptionalField base field at) = starts at & base.value & sign QuestionDot & word_pieces field
postfix_step (layer.Index base index at) = starts at & base.value & sign OpenBracket & index.value & sign CloseBracket

abbrev pub call_step : CallOf Pieces → Pieces
call_step (layer.«Call::Function» callee args at) = starts at & callee.value & arguments args.items
call_step (layer.Method receiver method args at) =
    starts at & receiver.value & sign Dot & word_pieces method & arguments args.items

abbrev pub primary_step : PrimaryOf Pieces → Pieces
primary_step (layer.Literal l) = literal_pieces l
primary_step (layer.Name n) = name_pieces n
primary_step (layer.Parens inner at) = starts at & sign OpenParen & inner.value & sign CloseParen
primary_step (layer.List items at) = starts at & sign OpenBracket & separated Comma items.items & sign CloseBracket
primary_step (layer.Mapping members at) = starts at & sign OpenBrace & separated Comma members.items & sign CloseBrace
primary_step (layer.Error message cause details at) =
    starts at & key ErrorKey & sign OpenParen & message.value & if_boxed as_next cause & behind Comma details.items & sign CloseParen

abbrev pub key_step : KeyOf Pieces → Pieces
key_step (layer.Word w) = word_pieces w
key_step (layer.Str text at) = starts at & token (StrKind text)
key_step (layer.Computed value at) = starts at & sign OpenBracket & value.value & sign CloseBracket

abbrev pub member_step : MemberOf Pieces → Pieces
member_step m = starts m.at & m.key & sign Colon & m.value.value

abbrev pub detail_step : DetailOf Pieces → Pieces
detail_step d = starts d.at & word_pieces d.name & sign EqualSign & d.value.value

abbrev pub writing : ExprSteps Pieces
writing = record {
  expr = expr_step;
  postfix = postfix_step;
  call = call_step;
  primary = primary_step;
  key = key_step;
  member = member_step;
  detail = detail_step;
}

abbrev pub expr_pieces : Expr → Pieces
expr_pieces = of_expr writing

abbrev pub postfix_pieces : Postfix → Pieces
postfix_pieces = of_postfix writing

abbrev pub call_pieces : Call → Pieces
call_pieces = of_call writing

abbrev pub primary_pieces : Primary → Pieces
primary_pieces = of_primary writing

abbrev pub key_pieces : Key → Pieces
key_pieces = of_key writing

abbrev pub member_pieces : Member → Pieces
member_pieces = of_member writing

abbrev pub detail_pieces : Detail → Pieces
detail_pieces = of_detail writing
