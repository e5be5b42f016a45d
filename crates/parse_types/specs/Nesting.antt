-- How deep a token stands, in brackets and in chains.
--
-- A tree that is read has no path of more than a fixed multiple of the limit of nodes. Each node has a keyword, a sign or a
-- bracket of its own, but for a fixed number of nodes between two such ones. A path goes from level to level, where a level is
-- what stands between two brackets, or outside all. In each level some of these tokens stand before the part of the level in
-- which the path goes on, and the others behind it.
--
-- Those before all count at the token where the path ends: a count begins anew only behind a member of a list, a field, a
-- statement, a definition or the type in front of a name, or at the arrow of a match clause. A node that is open there is the
-- statement or the like itself, and there are a fixed number of these in a level. (The arrow of a function has `function` before
-- it, so it is none of a match clause; else a function whose value is a mapping would make all forgotten that is open before it.)
-- So they and the open brackets are no more than the limit.
--
-- Those behind count from the brackets outwards: where brackets close, the count of the level around them goes on from the
-- highest count in them. So at the last of those behind, in the outermost level that has any, the count is no less than the number
-- of all of them, and they are no more than the limit either. (Else a chain in parentheses, which are the first operand of a chain
-- in parentheses, and so on, would be as deep as all its chains together.)
use Rattle.std.specs.Prelude.{ℕ, zero, suc, ◌+◌, Bool, true, false, not, nat_lt, max, if◌then◌else◌, List, [], ◌∷◌, map, length, sum, Option, None, Some}
use Rattle.std.specs.Option.{option_map_or}
use Rattle.std.specs.List.{position_from}
use Rattle.bal_base.specs.declared.limits.TheConstants.{MOST_NESTING}
use Rattle.bal_base.specs.declared.token.TokenKind.{TokenKind}
use Rattle.bal_base.specs.declared.token.TokenKind.TheVariants.{Keyword as KeywordKind, Sign as SignKind}
use Rattle.bal_base.specs.declared.token.Keyword.TheVariants.{Else, Function, Is}
use Rattle.bal_base.specs.declared.token.Sign.TheVariants.{OpenParen, CloseParen, OpenBracket, CloseBracket, OpenBrace, CloseBrace, OpenBraceBar, CloseBraceBar, Semicolon, Comma, FatArrow}
use Rattle.parse_types.specs.declared.nesting.Level.{Level}
use Rattle.token_steps.specs.Tokens.{Kinds}

-- ---- what a token is

abbrev pub is_opening : TokenKind → Bool
is_opening (SignKind OpenParen) = true
is_opening (SignKind OpenBracket) = true
is_opening (SignKind OpenBrace) = true
is_opening (SignKind OpenBraceBar) = true
is_opening _ = false

abbrev pub is_closing : TokenKind → Bool
is_closing (SignKind CloseParen) = true
is_closing (SignKind CloseBracket) = true
is_closing (SignKind CloseBrace) = true
is_closing (SignKind CloseBraceBar) = true
is_closing _ = false

-- a word of the language, or a sign
abbrev pub is_fixed : TokenKind → Bool
is_fixed (KeywordKind k) = true
is_fixed (SignKind s) = true
is_fixed _ = false

abbrev pub is_function : TokenKind → Bool
is_function (KeywordKind Function) = true
is_function _ = false

-- behind `}`, what goes on with what the brace ends
abbrev pub goes_on : TokenKind → Bool
goes_on (KeywordKind Else) = true
goes_on (KeywordKind Is) = true
goes_on (SignKind s) = true
goes_on _ = false

-- ---- one level: how many tokens count in it since its count last began (`count`), whether `function` is one of them
-- ---- (`has_function`), and its highest count before it last began (`highest`)

abbrev pub new_level : Level
new_level = record { count = 0; has_function = false; highest = 0 }

-- the highest count of a level since its bracket opened
abbrev pub highest_of : Level → ℕ
highest_of level = max level.count level.highest

abbrev pub begun_anew : Level → Level
begun_anew level = record { count = 0; has_function = false; highest = highest_of level }

abbrev pub counted : Level → Level
counted level = record { count = level.count + 1; has_function = level.has_function; highest = level.highest }

abbrev pub counted_function : Level → Level
counted_function level = record { count = level.count + 1; has_function = true; highest = level.highest }

-- a level behind brackets: one more for the bracket that closes, but no less than the highest count in the brackets, since
-- what stands in them may be the left part of what stands behind them
abbrev pub behind_brackets : Level → Level → Level
behind_brackets inside level =
    record { count = max (level.count + 1) (highest_of inside); has_function = level.has_function; highest = level.highest }

-- ---- levels: the outermost one, and one for each open bracket

pub record Levels : Type 0 where
  -- the innermost level
  pub here : Level
  -- the levels around it, innermost first
  pub around : List Level

abbrev pub outermost : Levels
outermost = record { here = new_level; around = [] }

abbrev pub counts : List Level → ℕ
counts levels = sum (map (λ (level : Level). level.count) levels)

-- the open brackets and all counts
abbrev pub nesting : Levels → ℕ
nesting l = length l.around + (l.here.count + counts l.around)

abbrev pub in_here : (Level → Level) → Levels → Levels
in_here change l = record { here = change l.here; around = l.around }

abbrev pub opened : Levels → Levels
opened l = record { here = new_level; around = l.here ∷ l.around }

-- the innermost open bracket closes, whatever its kind; where none is open, the bracket counts as other signs do
abbrev pub closed_into : List Level → Levels → Levels
closed_into [] l = in_here counted l
closed_into (level ∷ around) l = record { here = behind_brackets l.here level; around = around }

abbrev pub closed : Levels → Levels
closed l = closed_into l.around l

-- ---- along the tokens

-- at `=>` before `{` the count begins anew, but where `function` counts in it: that is the arrow of a function
abbrev pub begins_anew : TokenKind → Kinds → Level → Bool
begins_anew (SignKind FatArrow) (SignKind OpenBrace ∷ rest) level = not level.has_function
begins_anew _ _ level = false

-- behind `;`, behind `,` and behind a `}` with which nothing goes on the count begins anew
abbrev pub ends_count : TokenKind → Kinds → Bool
ends_count (SignKind Semicolon) rest = true
ends_count (SignKind Comma) rest = true
ends_count (SignKind CloseBrace) (next ∷ rest) = not (goes_on next)
ends_count _ _ = false

-- the levels at a token, what it opens, closes and adds itself included: each word of the language, and each
-- sign that opens no bracket, adds one to the innermost level, a closing bracket to the one it closes into
abbrev pub at_token : TokenKind → Kinds → Levels → Levels
at_token k rest l =
    if is_opening k then opened l
    else if is_closing k then closed l
    else if begins_anew k rest l.here then in_here (λ level. counted (begun_anew level)) l
    else if is_function k then in_here counted_function l
    else if is_fixed k then in_here counted l
    else l

abbrev pub behind_token : TokenKind → Kinds → Levels → Levels
behind_token k rest l = if ends_count k rest then in_here begun_anew l else l

-- the nesting at each token, where the first comes with these levels before it
abbrev pub nestings : Levels → Kinds → List ℕ
nestings l [] = []
nestings l (k ∷ rest) = let here = at_token k rest l in nesting here ∷ nestings (behind_token k rest here) rest

-- the index of the first token whose nesting passes the deepest that is allowed
abbrev pub first_too_deep : Kinds → Option ℕ
first_too_deep ks = position_from (λ n. nat_lt MOST_NESTING n) 0 (nestings outermost ks)

-- ---- a part of a file

abbrev pub one_less : ℕ → Option ℕ
one_less zero = None
one_less (suc depth) = Some depth

-- how many brackets are open behind a token; nothing where it closes one that was not opened here
abbrev pub depth_behind : TokenKind → ℕ → Option ℕ
depth_behind k depth = if is_opening k then Some (depth + 1) else if is_closing k then one_less depth else Some depth

-- the tokens before the first closing bracket that closes nothing of them, where so many brackets are open
abbrev pub enclosed : ℕ → Kinds → Kinds
enclosed depth [] = []
enclosed depth (k ∷ rest) = option_map_or (λ d. k ∷ enclosed d rest) (depth_behind k depth) []
