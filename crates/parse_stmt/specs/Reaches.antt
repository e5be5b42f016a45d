-- How far the readers of statements and definitions go: what they leave, construct by construct. This has the shape of the code, whose
-- private contracts cite it; no public clause does. What is promised stands in Starts.
use Rattle.std.specs.Prelude.{◌==◌, ℕ, zero, suc, Bool, true, false, ◌&&◌, not, if◌then◌else◌, List, [], ◌∷◌, length, Option, None, Some, option_map, is_some, nat_le}
use Rattle.bal_base.specs.declared.token.TokenKind.{TokenKind}
use Rattle.bal_base.specs.declared.token.TokenKind.TheVariants.{Word as WordKind, Keyword as KeywordKind, Int as IntKind, Str as StrKind, Sign as SignKind}
use Rattle.bal_base.specs.declared.token.Keyword.{Keyword}
use Rattle.bal_base.specs.declared.token.Keyword.TheVariants.{True, False, Check, CheckPanic, Trap, Start, Wait, Flush, Function, Final, Var, If, Else, While, Foreach, In, Match, Return, Panic, Break, Continue, Is, Import, As, Public, «Type», Const, Worker, Returns}
use Rattle.bal_base.specs.declared.token.Sign.{Sign}
use Rattle.bal_base.specs.declared.token.Sign.TheVariants.{Semicolon, Equal, PlusEqual, MinusEqual, StarEqual, SlashEqual, Arrow, DoubleArrow, LeftArrow, FatArrow, OpenBrace, CloseBrace, OpenParen, CloseParen, OpenBracket, Underscore, Bar, Comma, Colon, Ellipsis, DotDotLess, Minus, Slash, Dot}
use Rattle.parse_types.specs.Loops.{◌>>=◌, or_else, else_stays, many}
use Rattle.token_steps.specs.Tokens.{Kinds, take_sign, take_key, take_word}
use Rattle.parse_types.specs.Reaches.{name, negative, isolated_if_there}
use Rattle.parse_expr.specs.Reaches.{expr, params, type_at, int_name}
use Rattle.parse_stmt.specs.declared.ahead.Mark.{Mark}
use Rattle.parse_stmt.specs.declared.ahead.Mark.TheVariants.{Declares, Assigns, Sends, SendsSync, Nothing}
use Rattle.parse_stmt.specs.Ahead.{semicolon, first_mark}
use Rattle.parse_stmt.specs.Shapes.{Last, name_alone, other_alone, arguments_last, field_last, optional_last, index_last, operators, last_read}

-- ---- names and constants

abbrev pub any_name : Kinds → Option Kinds
any_name ks = or_else (name false ks) (int_name ks)

abbrev pub nil : Kinds → Option Kinds
nil ks = take_sign OpenParen ks >>= take_sign CloseParen

abbrev pub const_value : Kinds → Option Kinds
const_value [] = None
const_value (IntKind n ∷ ks) = Some ks
const_value (StrKind t ∷ ks) = Some ks
const_value (KeywordKind True ∷ ks) = Some ks
const_value (KeywordKind False ∷ ks) = Some ks
const_value (KeywordKind k ∷ ks) = None
const_value (WordKind w ∷ ks) = None
const_value (SignKind OpenParen ∷ ks) = take_sign CloseParen ks
const_value (SignKind Minus ∷ ks) = negative (SignKind Minus ∷ ks)
const_value (SignKind s ∷ ks) = None

-- ---- actions

abbrev pub peer : Kinds → Option Kinds
peer ks = or_else (take_word ks) (take_key Function ks)

abbrev pub is_call : Last → Bool
is_call arguments_last = true
is_call l = false

-- an expression that is a call
abbrev pub call : Kinds → Option Kinds
call ks = expr ks >>= λ a. if is_call (last_read ks a) then Some a else None

-- `|g`
abbrev pub bar_name : Kinds → Option Kinds
bar_name ks = take_sign Bar ks >>= any_name

-- `f|g`
abbrev pub names : Kinds → Option Kinds
names ks = any_name ks >>= λ a. Some (many length bar_name a)

-- `a: f`
abbrev pub wait_member : Kinds → Option Kinds
wait_member ks = take_word ks >>= take_sign Colon >>= any_name

abbrev pub comma_member : Kinds → Option Kinds
comma_member ks = take_sign Comma ks >>= wait_member

-- `a: f, b: g`
abbrev pub wait_members : Kinds → Option Kinds
wait_members ks = wait_member ks >>= λ a. Some (many length comma_member a)

-- what stands behind `wait`
abbrev pub waiting_or : Option Kinds → Kinds → Option Kinds
waiting_or (Some a) ks = wait_members a >>= take_sign CloseBrace
waiting_or None ks = names ks

abbrev pub waiting : Kinds → Option Kinds
waiting ks = waiting_or (take_sign OpenBrace ks) ks

abbrev pub start : Kinds → Option Kinds
start ks = take_key Start ks >>= call

abbrev pub wait : Kinds → Option Kinds
wait ks = take_key Wait ks >>= waiting

abbrev pub flush : Kinds → Option Kinds
flush ks = take_key Flush ks >>= peer

abbrev pub receive : Kinds → Option Kinds
receive ks = take_sign LeftArrow ks >>= peer

-- an action that is no send
abbrev pub bare : Kinds → Option Kinds
bare (KeywordKind Start ∷ ks) = start (KeywordKind Start ∷ ks)
bare (KeywordKind Wait ∷ ks) = wait (KeywordKind Wait ∷ ks)
bare (KeywordKind Flush ∷ ks) = flush (KeywordKind Flush ∷ ks)
bare (SignKind LeftArrow ∷ ks) = receive (SignKind LeftArrow ∷ ks)
bare ks = None

-- the same behind words
abbrev pub simple : Kinds → Option Kinds
simple (KeywordKind Check ∷ ks) = simple ks
simple (KeywordKind CheckPanic ∷ ks) = simple ks
simple (KeywordKind Trap ∷ ks) = simple ks
simple ks = bare ks

-- whether an action that is no send begins here, behind words
abbrev pub begins_simple : Kinds → Bool
begins_simple (KeywordKind Check ∷ ks) = begins_simple ks
begins_simple (KeywordKind CheckPanic ∷ ks) = begins_simple ks
begins_simple (KeywordKind Trap ∷ ks) = begins_simple ks
begins_simple (KeywordKind Start ∷ ks) = true
begins_simple (KeywordKind Wait ∷ ks) = true
begins_simple (KeywordKind Flush ∷ ks) = true
begins_simple (SignKind LeftArrow ∷ ks) = true
begins_simple ks = false

-- `e -> A`
abbrev pub send : Kinds → Option Kinds
send ks = expr ks >>= take_sign Arrow >>= peer

-- `e ->> A`
abbrev pub plain_sync_send : Kinds → Option Kinds
plain_sync_send ks = expr ks >>= take_sign DoubleArrow >>= peer

-- the same behind words that belong to it
abbrev pub sync_send : Kinds → Option Kinds
sync_send (KeywordKind Check ∷ ks) = sync_send ks
sync_send (KeywordKind CheckPanic ∷ ks) = sync_send ks
sync_send ks = plain_sync_send ks

abbrev pub begins_with_check : Kinds → Bool
begins_with_check (KeywordKind Check ∷ ks) = true
begins_with_check (KeywordKind CheckPanic ∷ ks) = true
begins_with_check ks = false

-- ---- what stands at the right of an assignment, and the semicolon behind it

abbrev pub simple_or : Bool → Kinds → Option Kinds
simple_or true ks = simple ks
simple_or false ks = expr ks

abbrev pub rhs_by : Mark → Kinds → Option Kinds
rhs_by Sends ks = send ks
rhs_by SendsSync ks = sync_send ks
rhs_by Declares ks = simple_or (begins_simple ks) ks
rhs_by Assigns ks = simple_or (begins_simple ks) ks
rhs_by Nothing ks = simple_or (begins_simple ks) ks

abbrev pub rhs : Kinds → Option Kinds
rhs ks = rhs_by (first_mark true 0 ks) ks

abbrev pub ended : Kinds → Option Kinds
ended ks = rhs ks >>= take_sign Semicolon

-- ---- statements that begin with a type or an expression

-- behind `check`, `checkpanic` or `trap`, where one stands
abbrev pub behind_word : Kinds → Kinds
behind_word (KeywordKind Check ∷ ks) = ks
behind_word (KeywordKind CheckPanic ∷ ks) = ks
behind_word (KeywordKind Trap ∷ ks) = ks
behind_word ks = ks

-- a call, or a `check`, `checkpanic` or `trap` of one
abbrev pub call_alone : Kinds → Option Kinds
call_alone ks = call (behind_word ks)

abbrev pub alone_or : Bool → Kinds → Option Kinds
alone_or true ks = simple ks
alone_or false ks = call_alone ks

abbrev pub is_target : Last → Bool
is_target name_alone = true
is_target field_last = true
is_target index_last = true
is_target other_alone = false
is_target arguments_last = false
is_target optional_last = false
is_target operators = false

abbrev pub target : Kinds → Option Kinds
target ks = expr ks >>= λ a. if is_target (last_read ks a) then Some a else None

abbrev pub assign_op : Kinds → Option Kinds
assign_op (SignKind Equal ∷ ks) = Some ks
assign_op (SignKind PlusEqual ∷ ks) = Some ks
assign_op (SignKind MinusEqual ∷ ks) = Some ks
assign_op (SignKind StarEqual ∷ ks) = Some ks
assign_op (SignKind SlashEqual ∷ ks) = Some ks
assign_op ks = None

abbrev pub assign : Kinds → Option Kinds
assign ks = target ks >>= assign_op >>= ended

-- a type, or `var`
abbrev pub local_type : Kinds → Option Kinds
local_type ks = or_else (take_key Var ks) (type_at false ks)

abbrev pub local : Kinds → Option Kinds
local ks = local_type ks >>= take_word >>= take_sign Equal >>= ended

-- what may be a statement with a semicolon behind it
abbrev pub rhs_alone : Mark → Kinds → Option Kinds
rhs_alone Sends ks = send ks
rhs_alone SendsSync ks = sync_send ks
rhs_alone Declares ks = alone_or (begins_simple ks) ks
rhs_alone Assigns ks = alone_or (begins_simple ks) ks
rhs_alone Nothing ks = alone_or (begins_simple ks) ks

abbrev pub rhs_stmt : Mark → Kinds → Option Kinds
rhs_stmt m ks = rhs_alone m ks >>= take_sign Semicolon

abbrev pub led_by : Mark → Kinds → Option Kinds
led_by Declares ks = local ks
led_by Assigns ks = assign ks
led_by Sends ks = rhs_stmt Sends ks
led_by SendsSync ks = rhs_stmt SendsSync ks
led_by Nothing ks = rhs_stmt Nothing ks

-- up to the semicolon, behind which `end` stands
abbrev pub up_to : Kinds → Kinds → Option Kinds
up_to end rest = if length rest == length end then Some end else None

unfoldable pub led : Kinds → Option Kinds
led ks = semicolon 0 ks >>= λ end. led_by (first_mark true 0 ks) ks >>= up_to end

-- ---- whether a statement that begins with `{` begins with a mapping: `ks` stand behind the brace

-- goes on with an expression before it, and begins no statement with blocks in it
abbrev pub goes_on : Kinds → Bool
goes_on [] = false
goes_on (KeywordKind Is ∷ ks) = true
goes_on (KeywordKind k ∷ ks) = false
goes_on (SignKind OpenBrace ∷ ks) = false
goes_on (SignKind CloseBrace ∷ ks) = false
goes_on (SignKind Underscore ∷ ks) = false
goes_on (SignKind s ∷ ks) = true
goes_on (k ∷ ks) = false

-- no semicolon stands between the braces, outside others
abbrev pub has_no_semicolon : Kinds → Bool
has_no_semicolon ks = not (is_some (semicolon 0 ks))

abbrev pub may_be_mapping : Kinds → Bool
may_be_mapping [] = false
may_be_mapping (WordKind w ∷ ks) = has_no_semicolon ks
may_be_mapping (StrKind t ∷ ks) = has_no_semicolon ks
may_be_mapping (SignKind OpenBracket ∷ ks) = has_no_semicolon (SignKind OpenBracket ∷ ks)
may_be_mapping (SignKind CloseBrace ∷ ks) = goes_on ks
may_be_mapping (k ∷ ks) = false

-- the braces are empty, and behind them stands a statement of its own
abbrev pub is_followed : Kinds → Bool
is_followed (SignKind CloseBrace ∷ ks) = is_some (led ks)
is_followed ks = false

abbrev pub begins_mapping : Kinds → Bool
begins_mapping ks = may_be_mapping ks && not (is_followed ks)

-- ---- patterns

abbrev pub pattern : Kinds → Option Kinds
pattern ks = or_else (take_sign Underscore ks) (or_else (const_value ks) (any_name ks))

abbrev pub bar_pattern : Kinds → Option Kinds
bar_pattern ks = take_sign Bar ks >>= pattern

-- `1|2`
abbrev pub patterns : Kinds → Option Kinds
patterns ks = pattern ks >>= λ a. Some (many length bar_pattern a)

-- ---- statements: `inner` reads an if statement (true) or a block (false) inside another one

abbrev pub return_behind : Kinds → Option Kinds
return_behind ks = or_else (take_sign Semicolon ks) (ended ks)

abbrev pub return_stmt : Kinds → Option Kinds
return_stmt ks = take_key Return ks >>= return_behind

abbrev pub panic_stmt : Kinds → Option Kinds
panic_stmt ks = take_key Panic ks >>= expr >>= take_sign Semicolon

abbrev pub break_stmt : Kinds → Option Kinds
break_stmt ks = take_key Break ks >>= take_sign Semicolon

abbrev pub continue_stmt : Kinds → Option Kinds
continue_stmt ks = take_key Continue ks >>= take_sign Semicolon

abbrev pub final_stmt : Kinds → Option Kinds
final_stmt ks = take_key Final ks >>= local

abbrev pub ignore : Kinds → Option Kinds
ignore ks = take_sign Underscore ks >>= take_sign Equal >>= ended

-- `... e` or `..< e`, where it is there
abbrev pub range_or : Option Kinds → Kinds → Option Kinds
range_or (Some a) ks = expr a
range_or None ks = Some ks

abbrev pub range_if : Kinds → Option Kinds
range_if ks = range_or (or_else (take_sign Ellipsis ks) (take_sign DotDotLess ks)) ks

abbrev pub foreach_head : Kinds → Option Kinds
foreach_head ks = take_key Foreach ks >>= local_type >>= take_word >>= take_key In >>= expr >>= range_if

module _ (inner : Bool → Kinds → Option Kinds) where
  abbrev pub block_inside : Kinds → Option Kinds
  block_inside = inner false

  -- behind `else`
  abbrev pub else_behind : Kinds → Option Kinds
  else_behind ks = inner (is_some (take_key If ks)) ks

  -- where it doesn't read, the statement ends before `else`
  abbrev pub else_or : Option Kinds → Kinds → Option Kinds
  else_or (Some a) ks = or_else (else_behind a) (Some ks)
  else_or None ks = Some ks

  abbrev pub else_if_there : Kinds → Option Kinds
  else_if_there ks = else_or (take_key Else ks) ks

  -- an if statement up to the end of its first block
  abbrev pub then_part : Kinds → Option Kinds
  then_part ks = take_key If ks >>= expr >>= block_inside

  abbrev pub if_stmt : Kinds → Option Kinds
  if_stmt ks = then_part ks >>= else_if_there

  abbrev pub while_stmt : Kinds → Option Kinds
  while_stmt ks = take_key While ks >>= expr >>= block_inside

  abbrev pub foreach : Kinds → Option Kinds
  foreach ks = foreach_head ks >>= block_inside

  abbrev pub clause : Kinds → Option Kinds
  clause ks = patterns ks >>= take_sign FatArrow >>= block_inside

  -- one or more
  abbrev pub clauses : Kinds → Option Kinds
  clauses ks = clause ks >>= λ a. Some (many length clause a)

  abbrev pub match_stmt : Kinds → Option Kinds
  match_stmt ks = take_key Match ks >>= expr >>= take_sign OpenBrace >>= clauses >>= take_sign CloseBrace

  abbrev pub keyword_stmt : Keyword → Kinds → Option Kinds
  keyword_stmt If ks = if_stmt ks
  keyword_stmt While ks = while_stmt ks
  keyword_stmt Foreach ks = foreach ks
  keyword_stmt Match ks = match_stmt ks
  keyword_stmt Return ks = return_stmt ks
  keyword_stmt Panic ks = panic_stmt ks
  keyword_stmt Break ks = break_stmt ks
  keyword_stmt Continue ks = continue_stmt ks
  keyword_stmt Final ks = final_stmt ks
  keyword_stmt Var ks = local ks
  keyword_stmt k ks = led ks

  abbrev pub brace_stmt : Bool → Kinds → Option Kinds
  brace_stmt true ks = or_else (led ks) (block_inside ks)
  brace_stmt false ks = block_inside ks

  abbrev pub stmt : Kinds → Option Kinds
  stmt [] = None
  stmt (KeywordKind k ∷ ks) = keyword_stmt k (KeywordKind k ∷ ks)
  stmt (SignKind OpenBrace ∷ ks) = brace_stmt (begins_mapping ks) (SignKind OpenBrace ∷ ks)
  stmt (SignKind Underscore ∷ ks) = ignore (SignKind Underscore ∷ ks)
  stmt (k ∷ ks) = led (k ∷ ks)

  -- none or more
  unfoldable pub stmts : Kinds → Kinds
  stmts ks = many length stmt ks

  abbrev pub block : Kinds → Option Kinds
  block ks = take_sign OpenBrace ks >>= λ a. take_sign CloseBrace (stmts a)

  abbrev pub if_or_block : Bool → Kinds → Option Kinds
  if_or_block true ks = if_stmt ks
  if_or_block false ks = block ks

-- what was left, if it is no more than stood there
abbrev pub no_more : Kinds → Option Kinds → Option Kinds
no_more ks None = None
no_more ks (Some a) = if nat_le (length a) (length ks) then Some a else None

-- an if statement or a block inside so many others at most
abbrev pub inside : ℕ → Bool → Kinds → Option Kinds
inside zero is_if ks = None
inside (suc n) is_if ks = no_more ks (if_or_block (inside n) is_if ks)

-- ---- definitions

abbrev pub result_or : Option Kinds → Kinds → Option Kinds
result_or (Some a) ks = type_at false a
result_or None ks = Some ks

-- `returns T`, where it is there
abbrev pub result_if : Kinds → Option Kinds
result_if ks = result_or (take_key Returns ks) ks

-- whether a word and `=` stand here
abbrev pub is_named : Kinds → Bool
is_named ks = is_some (take_word ks >>= take_sign Equal)

-- the type of a constant, where one stands before its name
abbrev pub const_type : Kinds → Option Kinds
const_type ks = if is_named ks then Some ks else type_at false ks

abbrev pub const_def : Kinds → Option Kinds
const_def ks = take_key Const ks >>= const_type >>= take_word >>= take_sign Equal >>= const_value >>= take_sign Semicolon

abbrev pub type_def : Kinds → Option Kinds
type_def ks = take_key «Type» ks >>= take_word >>= type_at false >>= take_sign Semicolon

abbrev pub final_if_there : Kinds → Kinds
final_if_there ks = else_stays (take_key Final ks) ks

abbrev pub variable_def : Kinds → Option Kinds
variable_def ks = type_at false (final_if_there ks) >>= take_word >>= take_sign Equal >>= expr >>= take_sign Semicolon

abbrev pub function_word : Kinds → Option Kinds
function_word ks = take_key Function (isolated_if_there ks) >>= take_word

-- `function f (`, where `isolated` may stand before it
abbrev pub begins_function : Kinds → Bool
begins_function ks = is_some (function_word ks >>= take_sign OpenParen)

abbrev pub expr_body : Kinds → Option Kinds
expr_body ks = take_sign FatArrow ks >>= expr >>= take_sign Semicolon

module _ (n : ℕ) where
  abbrev pub worker : Kinds → Option Kinds
  worker ks = take_key Worker ks >>= take_word >>= result_if >>= inside n false

  -- one or more
  abbrev pub workers : Kinds → Option Kinds
  workers ks = worker ks >>= λ a. Some (many length worker a)

  -- and the statements behind them
  abbrev pub workers_or : Bool → Kinds → Option Kinds
  workers_or true ks = workers ks >>= λ a. Some (stmts (inside n) a)
  workers_or false ks = Some ks

  abbrev pub workers_if : Kinds → Option Kinds
  workers_if ks = workers_or (is_some (take_key Worker ks)) ks

  abbrev pub block_body : Kinds → Option Kinds
  block_body ks = take_sign OpenBrace ks >>= λ a. workers_if (stmts (inside n) a) >>= take_sign CloseBrace

  abbrev pub body_or : Bool → Kinds → Option Kinds
  body_or true ks = block_body ks
  body_or false ks = expr_body ks

  abbrev pub body : Kinds → Option Kinds
  body ks = body_or (is_some (take_sign OpenBrace ks)) ks

  abbrev pub function_def : Kinds → Option Kinds
  function_def ks = function_word ks >>= params >>= result_if >>= body

  abbrev pub function_or : Bool → Kinds → Option Kinds
  function_or true ks = function_def ks
  function_or false ks = variable_def ks

  -- behind `public`
  abbrev pub def_behind : Kinds → Option Kinds
  def_behind (KeywordKind «Type» ∷ ks) = type_def (KeywordKind «Type» ∷ ks)
  def_behind (KeywordKind Const ∷ ks) = const_def (KeywordKind Const ∷ ks)
  def_behind [] = None
  def_behind ks = function_or (begins_function ks) ks

  abbrev pub def : Kinds → Option Kinds
  def ks = def_behind (else_stays (take_key Public ks) ks)

-- ---- where the body of a function stops

-- the signature of a function and the brace that opens its body
abbrev pub body_front : Kinds → Option Kinds
body_front ks = function_word (else_stays (take_key Public ks) ks) >>= params >>= result_if >>= take_sign OpenBrace

-- ---- imports

abbrev pub second_or : Option Kinds → Kinds → Option Kinds
second_or (Some a) ks = take_word a
second_or None ks = Some ks

abbrev pub dot_word : Kinds → Option Kinds
dot_word ks = take_sign Dot ks >>= take_word

-- behind the first word: `/b`, `.c` and `as d`, where they are there
abbrev pub import_behind : Kinds → Option Kinds
import_behind ks =
    second_or (take_sign Slash ks) ks >>= λ a. let b = many length dot_word a in second_or (take_key As b) b >>= take_sign Semicolon

abbrev pub import : Kinds → Option Kinds
import ks = take_key Import ks >>= take_word >>= import_behind
