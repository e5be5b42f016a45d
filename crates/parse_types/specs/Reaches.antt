-- How far the reader of types goes: what it leaves, construct by construct. This has the shape of the code, whose private
-- contracts cite it; no public clause does. What is promised of the reader stands in Starts.
--
-- `bracketed` reads a type between brackets, `outside` one that stands in the same place as the whole, and `inner` either
-- of them, in the middle of a conditional expression or not.
use Rattle.std.specs.Prelude.{ℕ, zero, suc, Bool, true, false, if◌then◌else◌, [], ◌∷◌, length, Option, None, Some, option_map, nat_le}
use Rattle.bal_base.specs.declared.token.TokenKind.TheVariants.{Word as WordKind, Keyword as KeywordKind, Int as IntKind, Str as StrKind, Sign as SignKind}
use Rattle.bal_base.specs.declared.token.Keyword.{Keyword}
use Rattle.bal_base.specs.declared.token.Keyword.TheVariants.{True, False, Int, String, Boolean, Byte, Any, AnyData, Never, ReadOnly, Map, Future, Error, Record, Function, Isolated, Returns}
use Rattle.bal_base.specs.declared.token.Sign.{Sign}
use Rattle.bal_base.specs.declared.token.Sign.TheVariants.{Bar, Ampersand, Question, OpenBracket, CloseBracket, Minus, OpenParen, CloseParen, Less, Greater, Colon, Comma, Ellipsis, Semicolon, OpenBrace, CloseBrace, OpenBraceBar, CloseBraceBar}
use Rattle.bal_tree.specs.TypeRules.{is_length}
use Rattle.parse_types.specs.Loops.{◌>>=◌, or_else, else_stays, many}
use Rattle.token_steps.specs.Tokens.{Kinds, take_sign, take_key, take_word, take_int}

-- what is left behind a type, and whether the type ends in the result of a function type
pub record Left : Type 0 where
  pub in_result : Bool
  pub rest : Kinds

abbrev pub open_at : Kinds → Left
open_at ks = record { in_result = false; rest = ks }

abbrev pub left_length : Left → ℕ
left_length l = length l.rest

-- behind the result, where it is there
abbrev pub result_or : Option Kinds → Kinds → Left
result_or None ks = open_at ks
result_or (Some a) ks = record { in_result = true; rest = a }

abbrev pub colon_word : Kinds → Option Kinds
colon_word ks = take_sign Colon ks >>= take_word

-- in a middle the `:` ends it
abbrev pub prefixed : Bool → Kinds → Kinds
prefixed true ks = ks
prefixed false ks = else_stays (colon_word ks) ks

abbrev pub name : Bool → Kinds → Option Kinds
name middle ks = take_word ks >>= λ a. Some (prefixed middle a)

abbrev pub int_or_name : Kinds → Option Kinds
int_or_name ks = take_key Int ks >>= λ a. Some (else_stays (colon_word a) a)

abbrev pub negative : Kinds → Option Kinds
negative ks = take_sign Minus ks >>= λ a. option_map (λ p. p.1) (take_int a)

abbrev pub nil : Kinds → Option Kinds
nil ks = take_sign OpenParen ks >>= take_sign CloseParen

-- a keyword that is a type alone
abbrev pub is_word_type : Keyword → Bool
is_word_type True = true
is_word_type False = true
is_word_type String = true
is_word_type Boolean = true
is_word_type Byte = true
is_word_type Any = true
is_word_type AnyData = true
is_word_type Never = true
is_word_type ReadOnly = true
is_word_type _ = false

abbrev pub one_word : Keyword → Kinds → Option Kinds
one_word k ks = if is_word_type k then take_key k ks else None

-- the signs behind a type that make another one of it
abbrev pub length_behind : Kinds → Option Kinds
length_behind ks = take_int ks >>= λ p. if is_length p.0 then take_sign CloseBracket p.1 else None

abbrev pub suffix : Kinds → Option Kinds
suffix ks = or_else (take_sign Question ks) (take_sign OpenBracket ks >>= λ a. or_else (take_sign CloseBracket a) (length_behind a))

abbrev pub suffix_step : Left → Option Left
suffix_step l = if l.in_result then None else option_map open_at (suffix l.rest)

abbrev pub word_if_there : Kinds → Kinds
word_if_there ks = else_stays (take_word ks) ks

abbrev pub question_if_there : Kinds → Kinds
question_if_there ks = else_stays (take_sign Question ks) ks

-- the rest of a field, behind its type
abbrev pub field_behind : Kinds → Option Kinds
field_behind ks = take_word ks >>= λ a. take_sign Semicolon (question_if_there a)

abbrev pub isolated_if_there : Kinds → Kinds
isolated_if_there ks = else_stays (take_key Isolated ks) ks

-- behind the fields, where a type stands there or none
abbrev pub fields_behind : Kinds → Option Kinds → Option (Bool × Kinds)
fields_behind ks None = Some (false, ks)
fields_behind ks (Some a) = take_sign Ellipsis a >>= take_sign Semicolon >>= λ b. Some (true, b)

module _ (bracketed : Kinds → Option Kinds) where
  abbrev pub parens : Kinds → Option Kinds
  parens ks = take_sign OpenParen ks >>= λ a. bracketed a >>= take_sign CloseParen

  -- `T, U`, and behind it `V...` where that stands there
  abbrev pub type_comma : Kinds → Option Kinds
  type_comma ks = bracketed ks >>= take_sign Comma

  abbrev pub last_type : Kinds → Option Kinds
  last_type ks = bracketed ks >>= λ a. Some (else_stays (take_sign Ellipsis a) a)

  abbrev pub type_list : Kinds → Option Kinds
  type_list ks = last_type (many length type_comma ks)

  abbrev pub tuple : Kinds → Option Kinds
  tuple ks = take_sign OpenBracket ks >>= λ a. or_else (take_sign CloseBracket a) (type_list a >>= take_sign CloseBracket)

  -- `T a, U`, and behind it `V...` where that stands there
  abbrev pub param_comma : Kinds → Option Kinds
  param_comma ks = bracketed ks >>= λ a. take_sign Comma (word_if_there a)

  abbrev pub last_param : Kinds → Option Kinds
  last_param ks = bracketed ks >>= λ a. or_else (take_sign Ellipsis a) (Some (word_if_there a))

  abbrev pub param_list : Kinds → Option Kinds
  param_list ks = last_param (many length param_comma ks)

  abbrev pub params : Kinds → Option Kinds
  params ks = take_sign OpenParen ks >>= λ a. or_else (take_sign CloseParen a) (param_list a >>= take_sign CloseParen)

  -- `T a;`
  abbrev pub field : Kinds → Option Kinds
  field ks = bracketed ks >>= field_behind

  -- fields, and behind them `V...;` where that stands there; and whether it does
  abbrev pub fields : Kinds → Option (Bool × Kinds)
  fields ks = let a = many length field ks in fields_behind a (bracketed a)

  abbrev pub closed_record : Kinds → Option Kinds
  closed_record ks = fields ks >>= λ p. take_sign CloseBraceBar p.1

  abbrev pub open_record : Kinds → Option Kinds
  open_record ks = fields ks >>= λ p. if p.0 then None else take_sign CloseBrace p.1

  abbrev pub record_behind : Option Kinds → Kinds → Option Kinds
  record_behind (Some a) ks = closed_record a
  record_behind None ks = take_sign OpenBrace ks >>= open_record

  abbrev pub record_type : Kinds → Option Kinds
  record_type ks = take_key Record ks >>= λ a. record_behind (take_sign OpenBraceBar a) a

module _ (outside : Kinds → Option Kinds) where
  abbrev pub in_angles : Kinds → Option Kinds
  in_angles ks = take_sign Less ks >>= λ a. outside a >>= take_sign Greater

  abbrev pub map_type : Kinds → Option Kinds
  map_type ks = take_key Map ks >>= in_angles

  abbrev pub future_type : Kinds → Option Kinds
  future_type ks = take_key Future ks >>= in_angles

  abbrev pub error_type : Kinds → Option Kinds
  error_type ks = take_key Error ks >>= λ a. Some (else_stays (in_angles a) a)

  abbrev pub returns : Kinds → Option Kinds
  returns ks = take_key Returns ks >>= outside

  -- behind the parameters
  abbrev pub result_if_there : Kinds → Left
  result_if_there ks = result_or (returns ks) ks

  abbrev pub params_or : Option Kinds → Kinds → Left
  params_or None ks = open_at ks
  params_or (Some a) ks = result_if_there a

module _ (inner : Bool → Kinds → Option Kinds) (middle : Bool) where
  abbrev pub function_behind : Kinds → Left
  function_behind ks = params_or (inner middle) (params (inner false) ks) ks

  abbrev pub function_type : Kinds → Option Left
  function_type ks = take_key Function (isolated_if_there ks) >>= λ a. Some (function_behind a)

  abbrev pub keyword_type : Keyword → Kinds → Option Left
  keyword_type Map ks = option_map open_at (map_type (inner middle) ks)
  keyword_type Future ks = option_map open_at (future_type (inner middle) ks)
  keyword_type Error ks = option_map open_at (error_type (inner middle) ks)
  keyword_type Record ks = option_map open_at (record_type (inner false) ks)
  keyword_type Function ks = function_type ks
  keyword_type Isolated ks = function_type ks
  keyword_type k ks = option_map open_at (one_word k ks)

  abbrev pub sign_type : Sign → Kinds → Option Left
  sign_type Minus ks = option_map open_at (negative ks)
  sign_type OpenParen ks = option_map open_at (or_else (parens (inner false) ks) (nil ks))
  sign_type OpenBracket ks = option_map open_at (tuple (inner false) ks)
  sign_type s ks = None

  abbrev pub primary : Kinds → Option Left
  primary [] = None
  primary (WordKind w ∷ ks) = option_map open_at (name middle (WordKind w ∷ ks))
  primary (KeywordKind Int ∷ ks) = option_map open_at (int_or_name (KeywordKind Int ∷ ks))
  primary (KeywordKind k ∷ ks) = keyword_type k (KeywordKind k ∷ ks)
  primary (IntKind n ∷ ks) = Some (open_at ks)
  primary (StrKind t ∷ ks) = Some (open_at ks)
  primary (SignKind s ∷ ks) = sign_type s (SignKind s ∷ ks)

  unfoldable pub postfix : Kinds → Option Left
  postfix ks = option_map (many left_length suffix_step) (primary ks)

  abbrev pub ampersand_step : Left → Option Left
  ampersand_step l = if l.in_result then None else take_sign Ampersand l.rest >>= postfix

  unfoldable pub intersection : Kinds → Option Left
  intersection ks = option_map (many left_length ampersand_step) (postfix ks)

  abbrev pub bar_step : Left → Option Left
  bar_step l = if l.in_result then None else take_sign Bar l.rest >>= intersection

  unfoldable pub union : Kinds → Option Left
  union ks = option_map (many left_length bar_step) (intersection ks)

-- what was left, if it is no more than stood there
abbrev pub no_more : Kinds → Option Left → Option Kinds
no_more ks None = None
no_more ks (Some l) = if nat_le (length l.rest) (length ks) then Some l.rest else None

-- a type inside so many others at most, in the middle of a conditional expression or not
abbrev pub inside : ℕ → Bool → Kinds → Option Kinds
inside zero middle ks = None
inside (suc n) middle ks = no_more ks (union (inside n) middle ks)

-- the longest type at the front, inside which no more types can stand than there are tokens
unfoldable pub longest_type : Bool → Kinds → Option Left
longest_type middle ks = union (inside (length ks)) middle ks
