-- How an expression ends, told by its tokens and by its tree: what is assigned to must be a name, a field or a member, and what stands
-- as a statement a call.
use Rattle.std.specs.Prelude.{◌-◌, ℕ, zero, suc, List, [], ◌∷◌, length, take, Option, None, Some}
use Rattle.std.specs.Option.{option_map_or}
use Rattle.bal_base.specs.declared.token.TokenKind.{TokenKind}
use Rattle.bal_base.specs.declared.token.TokenKind.TheVariants.{Word as WordKind, Keyword as KeywordKind, Int as IntKind, Str as StrKind, Sign as SignKind}
use Rattle.bal_base.specs.declared.token.Keyword.TheVariants.{True, False, Int, Error}
use Rattle.bal_base.specs.declared.token.Sign.TheVariants.{OpenParen, OpenBracket, OpenBrace, Colon, Dot, QuestionDot}
use Rattle.bal_tree.specs.declared.expr.Call.TheOpen as layer
use Rattle.bal_tree.specs.declared.expr.Expr.{Expr}
use Rattle.bal_tree.specs.declared.expr.Postfix.{Postfix}
use Rattle.bal_tree.specs.declared.expr.Primary.{Primary}
use Rattle.bal_tree.specs.ExprLayers.{ExprOf, PostfixOf, PrimaryOf, ExprSteps, of_expr, of_postfix, of_primary}
use Rattle.parse_types.specs.Nesting.{depth_behind}
use Rattle.token_steps.specs.Tokens.{Kinds}

-- a name alone, another primary expression alone, the suffix that stands last, or that it has operators
pub data Last : Type 0 where
  name_alone : Last
  other_alone : Last
  arguments_last : Last
  field_last : Last
  optional_last : Last
  index_last : Last
  operators : Last

-- ---- by its tree

abbrev pub last_in_expr : ExprOf Last → Last
last_in_expr (layer.Postfix e) = e
last_in_expr (layer.Prefix op operand at) = operators
last_in_expr (layer.Cast t operand at) = operators
last_in_expr (layer.Binary left op right at) = operators
last_in_expr (layer.TypeTest operand t at) = operators
last_in_expr (layer.Conditional condition middle last at) = operators
last_in_expr (layer.Trap operand at) = operators
last_in_expr (layer.«Expr::Function» isolated params result value at) = operators

abbrev pub last_in_postfix : PostfixOf Last → Last
last_in_postfix (layer.Primary e) = e
last_in_postfix (layer.Call e) = e
last_in_postfix (layer.Field base field at) = field_last
last_in_postfix (layer.OptionalField base field at) = optional_last
last_in_postfix (layer.Index base index at) = index_last

abbrev pub last_in_primary : PrimaryOf Last → Last
last_in_primary (layer.Literal l) = other_alone
last_in_primary (layer.Name n) = name_alone
last_in_primary (layer.Parens inner at) = other_alone
last_in_primary (layer.List items at) = other_alone
last_in_primary (layer.Mapping members at) = other_alone
last_in_primary (layer.Error message cause details at) = other_alone

abbrev pub lasts : ExprSteps Last
lasts = record {
  expr = last_in_expr;
  postfix = last_in_postfix;
  call = λ e. arguments_last;
  primary = last_in_primary;
  key = λ k. other_alone;
  member = λ m. other_alone;
  detail = λ d. other_alone;
}

abbrev pub last_of : Expr → Last
last_of = of_expr lasts

abbrev pub postfix_last : Postfix → Last
postfix_last = of_postfix lasts

abbrev pub primary_last : Primary → Last
primary_last = of_primary lasts

-- ---- by its tokens, one by one; what stands between brackets counts for nothing

pub data Shape : Type 0 where
  nothing_yet : Shape
  error_word : Shape
  in_name : Shape
  behind_dot : Shape
  behind_question_dot : Shape
  so_far : Last → Shape

abbrev pub first_step : TokenKind → Shape
first_step (WordKind w) = so_far name_alone
first_step (IntKind n) = so_far other_alone
first_step (StrKind t) = so_far other_alone
first_step (KeywordKind Int) = so_far name_alone
first_step (KeywordKind True) = so_far other_alone
first_step (KeywordKind False) = so_far other_alone
first_step (KeywordKind Error) = error_word
first_step (SignKind OpenParen) = so_far other_alone
first_step (SignKind OpenBracket) = so_far other_alone
first_step (SignKind OpenBrace) = so_far other_alone
first_step k = so_far operators

abbrev pub next_step : Last → TokenKind → Shape
next_step operators k = so_far operators
next_step name_alone (SignKind Colon) = in_name
next_step l (SignKind Dot) = behind_dot
next_step l (SignKind QuestionDot) = behind_question_dot
next_step l (SignKind OpenParen) = so_far arguments_last
next_step l (SignKind OpenBracket) = so_far index_last
next_step l k = so_far operators

abbrev pub word_step : Last → TokenKind → Shape
word_step l (WordKind w) = so_far l
word_step l k = so_far operators

abbrev pub error_step : TokenKind → Shape
error_step (SignKind OpenParen) = so_far other_alone
error_step k = so_far operators

abbrev pub step : Shape → TokenKind → Shape
step nothing_yet k = first_step k
step error_word k = error_step k
step in_name k = word_step name_alone k
step behind_dot k = word_step field_last k
step behind_question_dot k = word_step optional_last k
step (so_far l) k = next_step l k

abbrev pub step_at : ℕ → Shape → TokenKind → Shape
step_at zero s k = step s k
step_at (suc depth) s k = s

abbrev pub shape : Shape → ℕ → Kinds → Shape
shape s depth [] = s
shape s depth (k ∷ ks) = option_map_or (λ d. shape (step_at depth s k) d ks) (depth_behind k depth) s

abbrev pub last_in : Shape → Last
last_in (so_far l) = l
last_in s = operators

-- of the tokens before the rest
unfoldable pub last_read : Kinds → Kinds → Last
last_read ks rest = last_in (shape nothing_yet 0 (take (length ks - length rest) ks))
