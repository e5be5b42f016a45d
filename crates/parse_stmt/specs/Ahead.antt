-- What tells statements apart that begin alike: signs that stand outside all brackets, and never in a type or an expression there.
use Rattle.std.specs.Prelude.{ℕ, zero, suc, Bool, true, false, ◌&&◌, if◌then◌else◌, List, [], ◌∷◌, Option, None, Some, is_some, option_and_then}
use Rattle.std.specs.Option.{option_map_or}
use Rattle.bal_base.specs.declared.token.TokenKind.{TokenKind}
use Rattle.bal_base.specs.declared.token.TokenKind.TheVariants.{Word as WordKind, Sign as SignKind}
use Rattle.bal_base.specs.declared.token.Sign.{Sign}
use Rattle.bal_base.specs.declared.token.Sign.TheVariants.{Semicolon, Equal, PlusEqual, MinusEqual, StarEqual, SlashEqual, Arrow, DoubleArrow, Dot, Colon}
use Rattle.token_steps.specs.Tokens.{Kinds, take_sign}
use Rattle.parse_types.specs.Nesting.{depth_behind}
use Rattle.parse_stmt.specs.declared.ahead.Mark.{Mark}
use Rattle.parse_stmt.specs.declared.ahead.Mark.TheVariants.{Declares, Assigns, Sends, SendsSync, Nothing}

-- no bracket is open
abbrev pub is_outside : ℕ → Bool
is_outside zero = true
is_outside (suc depth) = false

abbrev pub is_semicolon : TokenKind → Bool
is_semicolon (SignKind Semicolon) = true
is_semicolon k = false

-- what follows the first semicolon outside brackets, where so many are open; none behind a bracket that closes nothing of these
abbrev pub semicolon : ℕ → Kinds → Option Kinds
semicolon depth [] = None
semicolon depth (k ∷ ks) =
    if is_semicolon k && is_outside depth then Some ks else option_and_then (λ d. semicolon d ks) (depth_behind k depth)

-- the sign that comes first: of a declaration, of an assignment, of a message, or the semicolon
abbrev pub mark_of : Sign → Option Mark
mark_of Semicolon = Some Nothing
mark_of Equal = Some Assigns
mark_of PlusEqual = Some Assigns
mark_of MinusEqual = Some Assigns
mark_of StarEqual = Some Assigns
mark_of SlashEqual = Some Assigns
mark_of Arrow = Some Sends
mark_of DoubleArrow = Some SendsSync
mark_of s = None

-- a word before `=` is what is assigned to where it stands first, or behind a sign that joins it to what stands before it;
-- else it is declared
abbrev pub word_mark : Bool → Bool → Option Mark
word_mark joined false = None
word_mark true true = Some Assigns
word_mark false true = Some Declares

abbrev pub mark_here : Bool → TokenKind → Kinds → Option Mark
mark_here joined (WordKind w) ks = word_mark joined (is_some (take_sign Equal ks))
mark_here joined (SignKind s) ks = mark_of s
mark_here joined k ks = None

abbrev pub if_outside : Option Mark → ℕ → Option Mark
if_outside None depth = None
if_outside (Some m) zero = Some m
if_outside (Some m) (suc depth) = None

abbrev pub mark_at : ℕ → Bool → TokenKind → Kinds → Option Mark
mark_at depth joined k ks = if_outside (mark_here joined k ks) depth

-- the sign joins a word to what stands before it
abbrev pub joins : TokenKind → Bool
joins (SignKind Dot) = true
joins (SignKind Colon) = true
joins k = false

abbrev pub mark_or : Option Mark → Mark → Mark
mark_or (Some m) later = m
mark_or None later = later

-- the first mark outside brackets, where so many are open, and where what stands before joins on or not
abbrev pub first_mark : Bool → ℕ → Kinds → Mark
first_mark joined depth [] = Nothing
first_mark joined depth (k ∷ ks) = mark_or (mark_at depth joined k ks) (option_map_or (λ d. first_mark (joins k) d ks) (depth_behind k depth) Nothing)
