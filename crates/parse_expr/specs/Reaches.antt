-- How far the reader of expressions goes: what it leaves, construct by construct. This has the shape of the code, whose private
-- contracts cite it; no public clause does. What is promised of the reader stands in Starts.
--
-- `inner k middle` reads an expression inside another one, whose level has at most the rank `k`, in the middle of a conditional
-- expression or not.
use Rattle.std.specs.Prelude.{◌==◌, ℕ, zero, suc, Bool, true, false, if◌then◌else◌, List, [], ◌∷◌, length, Option, None, Some, option_map, is_some, nat_le}
use Rattle.bal_base.specs.declared.token.TokenKind.{TokenKind}
use Rattle.bal_base.specs.declared.token.TokenKind.TheVariants.{Word as WordKind, Keyword as KeywordKind, Int as IntKind, Str as StrKind, Sign as SignKind}
use Rattle.bal_base.specs.declared.token.Keyword.{Keyword}
use Rattle.bal_base.specs.declared.token.Keyword.TheVariants.{True, False, Int, Error, Function, Isolated, Returns, Trap, Check, CheckPanic}
use Rattle.bal_base.specs.declared.token.Sign.{Sign}
use Rattle.bal_base.specs.declared.token.Sign.TheVariants.{Question, OpenBracket, CloseBracket, Minus, Not, OpenParen, CloseParen, Less, Greater, Colon, Comma, Ellipsis, OpenBrace, CloseBrace, Dot, QuestionDot, Equal, FatArrow}
use Rattle.parse_types.specs.Loops.{◌>>=◌, or_else, else_stays, many}
use Rattle.parse_types.specs.Reaches.{Left as TypeLeft, colon_word, name, isolated_if_there, longest_type}
use Rattle.token_steps.specs.Tokens.{Kinds, take_sign, take_key, take_word}
use Rattle.parse_expr.specs.Operators.{reads}

-- the longest type
abbrev pub type_rest : TypeLeft → Kinds
type_rest l = l.rest

unfoldable pub type_at : Bool → Kinds → Option Kinds
type_at middle ks = option_map type_rest (longest_type middle ks)

-- ---- lists

module _ (item : Kinds → Option Kinds) where
  abbrev pub item_comma : Kinds → Option Kinds
  item_comma ks = item ks >>= take_sign Comma

  -- one or more, with commas between them
  unfoldable pub items : Kinds → Option Kinds
  items ks = item (many length item_comma ks)

  -- none or more, and the sign that closes them
  abbrev pub items_until : Sign → Kinds → Option Kinds
  items_until close ks = or_else (take_sign close ks) (items ks >>= take_sign close)

-- ---- parameters of a function

-- `T a,`
abbrev pub param_comma : Kinds → Option Kinds
param_comma ks = type_at false ks >>= take_word >>= take_sign Comma

-- `T a` or `T... a`
abbrev pub last_param : Kinds → Option Kinds
last_param ks = type_at false ks >>= λ a. take_word (else_stays (take_sign Ellipsis a) a)

unfoldable pub param_list : Kinds → Option Kinds
param_list ks = last_param (many length param_comma ks)

abbrev pub params : Kinds → Option Kinds
params ks = take_sign OpenParen ks >>= λ a. or_else (take_sign CloseParen a) (param_list a >>= take_sign CloseParen)

-- behind `function`, where `isolated` may stand before it
abbrev pub take_function : Kinds → Option Kinds
take_function ks = take_key Function (isolated_if_there ks)

-- `function (T a) returns R`, where `isolated` may stand before it
abbrev pub function_head : Bool → Kinds → Option Kinds
function_head middle ks = take_function ks >>= params >>= take_key Returns >>= type_at middle

-- ---- names

-- a name that begins with `int`
abbrev pub int_name : Kinds → Option Kinds
int_name ks = take_key Int ks >>= colon_word

-- ---- what stands between brackets: `bracketed` reads an expression there

-- what is left behind an expression with suffixes, and whether it ends in `.f`
pub record Left : Type 0 where
  pub is_field : Bool
  pub rest : Kinds

abbrev pub closed_at : Kinds → Left
closed_at ks = record { is_field = false; rest = ks }

abbrev pub field_at : Kinds → Left
field_at ks = record { is_field = true; rest = ks }

abbrev pub left_length : Left → ℕ
left_length l = length l.rest

abbrev pub left_rest : Left → Kinds
left_rest l = l.rest

-- behind `a =`
abbrev pub name_equal : Kinds → Option Kinds
name_equal ks = take_word ks >>= take_sign Equal

-- behind `.f`, with arguments where they stand there
abbrev pub method_or : Option Kinds → Kinds → Left
method_or None ks = field_at ks
method_or (Some a) ks = closed_at a

-- `?.f`
abbrev pub optional_field : Kinds → Option Kinds
optional_field ks = take_sign QuestionDot ks >>= take_word

module _ (bracketed : Kinds → Option Kinds) where
  abbrev pub arguments : Kinds → Option Kinds
  arguments ks = take_sign OpenParen ks >>= items_until bracketed CloseParen

  abbrev pub index : Kinds → Option Kinds
  index ks = take_sign OpenBracket ks >>= bracketed >>= take_sign CloseBracket

  abbrev pub member : Kinds → Option Left
  member ks = take_sign Dot ks >>= take_word >>= λ a. Some (method_or (arguments a) a)

  abbrev pub suffix_by : Bool → Sign → Kinds → Option Left
  suffix_by is_field OpenParen ks = if is_field then None else option_map closed_at (arguments ks)
  suffix_by is_field Dot ks = member ks
  suffix_by is_field QuestionDot ks = option_map closed_at (optional_field ks)
  suffix_by is_field OpenBracket ks = option_map closed_at (index ks)
  suffix_by is_field s ks = None

  abbrev pub suffix : Bool → Kinds → Option Left
  suffix is_field [] = None
  suffix is_field (SignKind s ∷ ks) = suffix_by is_field s (SignKind s ∷ ks)
  suffix is_field (k ∷ ks) = None

  abbrev pub suffix_step : Left → Option Left
  suffix_step l = suffix l.is_field l.rest

  -- `(e)`, or `()`
  abbrev pub parens : Kinds → Option Kinds
  parens ks = take_sign OpenParen ks >>= λ a. or_else (take_sign CloseParen a) (bracketed a >>= take_sign CloseParen)

  abbrev pub list : Kinds → Option Kinds
  list ks = take_sign OpenBracket ks >>= items_until bracketed CloseBracket

  -- a key of a mapping
  abbrev pub key : Kinds → Option Kinds
  key [] = None
  key (WordKind w ∷ ks) = Some ks
  key (StrKind t ∷ ks) = Some ks
  key (SignKind OpenBracket ∷ ks) = index (SignKind OpenBracket ∷ ks)
  key (k ∷ ks) = None

  abbrev pub mapping_member : Kinds → Option Kinds
  mapping_member ks = key ks >>= take_sign Colon >>= bracketed

  abbrev pub mapping : Kinds → Option Kinds
  mapping ks = take_sign OpenBrace ks >>= items_until mapping_member CloseBrace

  -- behind the message of an error, `, e` where no detail stands there
  abbrev pub cause_at : Option Kinds → Kinds → Option Kinds
  cause_at None ks = Some ks
  cause_at (Some a) ks = if is_some (name_equal a) then Some ks else bracketed a

  abbrev pub cause : Kinds → Option Kinds
  cause ks = cause_at (take_sign Comma ks) ks

  -- `, a = e`
  abbrev pub detail : Kinds → Option Kinds
  detail ks = take_sign Comma ks >>= name_equal >>= bracketed

  unfoldable pub details : Kinds → Kinds
  details ks = many length detail ks

  abbrev pub error : Kinds → Option Kinds
  error ks = take_key Error ks >>= take_sign OpenParen >>= bracketed >>= cause >>= λ a. take_sign CloseParen (details a)

  abbrev pub keyword_primary : Keyword → Kinds → Option Kinds
  keyword_primary True ks = take_key True ks
  keyword_primary False ks = take_key False ks
  keyword_primary Int ks = int_name ks
  keyword_primary Error ks = error ks
  keyword_primary k ks = None

  abbrev pub sign_primary : Sign → Kinds → Option Kinds
  sign_primary OpenParen ks = parens ks
  sign_primary OpenBracket ks = list ks
  sign_primary OpenBrace ks = mapping ks
  sign_primary s ks = None

  module _ (middle : Bool) where
    abbrev pub primary : Kinds → Option Kinds
    primary [] = None
    primary (WordKind w ∷ ks) = name middle (WordKind w ∷ ks)
    primary (KeywordKind k ∷ ks) = keyword_primary k (KeywordKind k ∷ ks)
    primary (IntKind n ∷ ks) = Some ks
    primary (StrKind t ∷ ks) = Some ks
    primary (SignKind s ∷ ks) = sign_primary s (SignKind s ∷ ks)

    unfoldable pub postfix : Kinds → Option Left
    postfix ks = option_map (λ a. many left_length suffix_step (closed_at a)) (primary ks)

-- ---- operators

-- behind `-`, `!`, `check` or `checkpanic`
abbrev pub take_prefix : Kinds → Option Kinds
take_prefix (SignKind Minus ∷ ks) = Some ks
take_prefix (SignKind Not ∷ ks) = Some ks
take_prefix (KeywordKind Check ∷ ks) = Some ks
take_prefix (KeywordKind CheckPanic ∷ ks) = Some ks
take_prefix ks = None

module _ (inner : ℕ → Bool → Kinds → Option Kinds) (middle : Bool) where
  abbrev pub suffixed : Kinds → Option Kinds
  suffixed ks = option_map left_rest (postfix (inner 10 false) middle ks)

  -- `<T>e`
  abbrev pub cast : Kinds → Option Kinds
  cast ks = take_sign Less ks >>= type_at middle >>= take_sign Greater >>= inner 1 middle

  abbrev pub cast_or : Bool → Kinds → Option Kinds
  cast_or true ks = cast ks
  cast_or false ks = suffixed ks

  abbrev pub prefix_or : Option Kinds → Kinds → Option Kinds
  prefix_or (Some a) ks = inner 1 middle a
  prefix_or None ks = cast_or (is_some (take_sign Less ks)) ks

  -- without an operator that stands between two operands
  abbrev pub tight : Kinds → Option Kinds
  tight ks = prefix_or (take_prefix ks) ks

  -- an expression whose level has at most this rank, which is below that of the loosest
  abbrev pub level : ℕ → Kinds → Option Kinds
  level = reads (type_at middle) (inner 8 middle) (inner 9 true) (inner 9 middle) tight

  -- `function (T a) returns R => e`
  abbrev pub function : Kinds → Option Kinds
  function ks = function_head middle ks >>= take_sign FatArrow >>= inner 10 middle

  abbrev pub function_or : Bool → Kinds → Option Kinds
  function_or true ks = function ks
  function_or false ks = level 9 ks

  -- `trap e`
  abbrev pub trap : Kinds → Option Kinds
  trap ks = take_key Trap ks >>= inner 10 middle

  abbrev pub trap_or : Bool → Kinds → Option Kinds
  trap_or true ks = trap ks
  trap_or false ks = function_or (is_some (take_function ks)) ks

  -- any expression
  abbrev pub loosest : Kinds → Option Kinds
  loosest ks = trap_or (is_some (take_key Trap ks)) ks

  -- an expression whose level has at most this rank
  unfoldable pub up_to : ℕ → Kinds → Option Kinds
  up_to k ks = if nat_le 10 k then loosest ks else (if k == 0 then suffixed ks else level k ks)

-- what was left, if it is no more than stood there
abbrev pub no_more : Kinds → Option Kinds → Option Kinds
no_more ks None = None
no_more ks (Some a) = if nat_le (length a) (length ks) then Some a else None

-- an expression inside so many others at most
abbrev pub inside : ℕ → ℕ → Bool → Kinds → Option Kinds
inside zero k middle ks = None
inside (suc n) k middle ks = no_more ks (up_to (inside n) middle k ks)

-- the longest expression
abbrev pub expr : Kinds → Option Kinds
expr ks = up_to (inside (length ks)) false 10 ks
