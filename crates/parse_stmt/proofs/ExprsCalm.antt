-- What the tokens of an expression tell of it: looking ahead passes over them, how it begins, and how it ends.
use Rattle.std.proofs.Common.{◌≡◌, ℕ, zero, suc, ◌-◌, Bool, true, false, List, [], ◌∷◌, ◌++◌, map, length, take, Option, None, Some, refl, sym, ap, ◌∙◌, subst, arith}
use Rattle.std.specs.Global.{Box, Vec}
use Rattle.std.specs.Option.{option_map_or}
use Rattle.std.specs.Prelude.{is_some, not}
use Rattle.std.proofs.lemmas.List.{append-nil, length-append}
use Rattle.bal_base.specs.declared.place.Place.{Place}
use Rattle.bal_base.specs.declared.token.TokenKind.{TokenKind}
use Rattle.bal_base.specs.declared.token.TokenKind.TheVariants.{Word as WordKind, Keyword as KeywordKind, Int as IntKind, Str as StrKind, Sign as SignKind}
use Rattle.bal_base.specs.declared.token.Keyword.TheVariants.{Check as CheckKey, CheckPanic as CheckPanicKey, Trap as TrapKey, Is, Error as ErrorKey, Returns as ReturnsKey, Isolated as IsolatedKey, Function as FunctionKey}
use Rattle.bal_base.specs.declared.token.Sign.{Sign}
use Rattle.bal_base.specs.declared.token.Sign.TheVariants.{Minus, Not as NotSign, Less, Greater, Question, Colon, Comma, Dot, QuestionDot, Equal, FatArrow, Ellipsis, Semicolon, OpenParen, CloseParen, OpenBracket, CloseBracket, OpenBrace, CloseBrace, OpenBraceBar, CloseBraceBar}
use Rattle.bal_tree.specs.declared.name.Literal.{Literal}
use Rattle.bal_tree.specs.declared.name.Literal.TheVariants.{Int, Str, True, False, Nil}
use Rattle.bal_tree.specs.declared.name.Prefix.{Prefix}
use Rattle.bal_tree.specs.declared.name.Prefix.TheVariants.{Word as WordPrefix, Int as IntPrefix}
use Rattle.bal_tree.specs.declared.name.Word.{Word}
use Rattle.bal_tree.specs.declared.params.Param.{Param}
use Rattle.bal_tree.specs.declared.params.Params.{Params}
use Rattle.bal_tree.specs.declared.types.TypeTree.{TypeTree}
use Rattle.bal_tree.specs.declared.expr.PrefixOp.{PrefixOp}
use Rattle.bal_tree.specs.declared.expr.PrefixOp.TheVariants.{Negate, Not, Check, CheckPanic}
use Rattle.bal_tree.specs.declared.expr.BinaryOp.{BinaryOp}
use Rattle.bal_tree.specs.declared.expr.BinaryOp.TheVariants as binary
use Rattle.bal_tree.specs.declared.expr.Call.TheOpen as layer
use Rattle.bal_tree.specs.declared.expr.Call.{Call, Call-F, roll-Call, map-Call}
use Rattle.bal_tree.specs.declared.expr.Expr.{Expr, Expr-F, roll-Expr, map-Expr, ind-Expr}
use Rattle.bal_tree.specs.declared.expr.Key.{Key, Key-F, roll-Key, map-Key}
use Rattle.bal_tree.specs.declared.expr.Postfix.{Postfix, Postfix-F, roll-Postfix, map-Postfix, ind-Postfix}
use Rattle.bal_tree.specs.declared.expr.Primary.{Primary, Primary-F, roll-Primary, map-Primary}
use Rattle.bal_tree.specs.declared.expr.Detail.{Detail, Detail-F, roll-Detail, map-Detail}
use Rattle.bal_tree.specs.declared.expr.Member.{Member, Member-F, roll-Member, map-Member}
use Rattle.bal_tree.specs.ExprLayers.{of_call, of_expr, of_key, of_postfix, of_primary, of_detail, of_member}
use Rattle.bal_tree.specs.ExprPieces.{writing, arguments, as_next, binary_sign, function_head, prefix_op, expr_pieces, call_pieces, key_pieces, postfix_pieces, primary_pieces, detail_pieces, member_pieces}
use Rattle.bal_tree.specs.ExprRules.{ExprFacts, facts, expr_facts, is_check}
use Rattle.bal_tree.specs.NamePieces.{literal_pieces, name_pieces, prefix_pieces, word_pieces}
use Rattle.bal_tree.specs.Pieces.{Pieces, nothing, token, starts, ◌&◌, key, sign, if_there, if_boxed, behind, joined, kinds, separated}
use Rattle.bal_tree.specs.Spells.{onto}
use Rattle.bal_tree.specs.TypePieces.{as_rest, function_word, in_angles, param_pieces, params_pieces, rest_param_pieces, returning, type_pieces}
use Rattle.bal_tree.proofs.Spelling.{onto-kinds}
use Rattle.parse_types.specs.Nesting.{depth_behind}
use Rattle.token_steps.specs.Tokens.{Kinds}
use Rattle.parse_expr.proofs.ExprRolls.{parts_of_call, parts_of_expr, parts_of_key, parts_of_postfix, parts_of_primary, parts_of_detail, parts_of_member, rolled-call, rolled-expr, rolled-key, rolled-postfix, rolled-primary, rolled-detail, rolled-member}
use Rattle.parse_stmt.specs.Ahead.{semicolon}
use Rattle.parse_stmt.specs.Reaches.{begins_simple, begins_with_check, goes_on, may_be_mapping}
use Rattle.parse_stmt.specs.Shapes.{Last, name_alone, other_alone, arguments_last, field_last, optional_last, index_last, operators, lasts, last_of, postfix_last, Shape, nothing_yet, error_word, so_far, behind_dot, behind_question_dot, shape, step_at, last_in, last_read}
use Rattle.parse_stmt.proofs.Calm.{AllDeep, Calm, Deep, brackets, braces, parens, calm-at, calm-both, calm-colon, calm-dot, calm-key, calm-nothing, calm-pair, calm-sign, calm-str, calm-word, deep-behind, deep-both, deep-key, deep-nothing, deep-separated, deep-sign, deep-starts, deep-word, is_quiet}
use Rattle.parse_stmt.proofs.Known.{begins_word, leads}
use Rattle.parse_stmt.proofs.TypesCalm.{calm-literal, calm-name, type-calm}

-- ---- parameters

params-deep : (ps : List Param) → AllDeep (λ p. p) (map param_pieces ps)
params-deep [] = tt
params-deep (p ∷ ps) = (deep-both (starts p.at) (type_pieces p.ty.value & word_pieces p.name) (deep-starts p.at) (deep-both (type_pieces p.ty.value) (word_pieces p.name) (type-calm p.ty.value).calm.deep (deep-word p.name)), params-deep ps)

all-more : (ps : List Pieces) (p : Pieces) → AllDeep (λ p. p) ps → Deep p → AllDeep (λ p. p) (ps ++ p ∷ [])
all-more [] p all d = (d, tt)
all-more (q ∷ ps) p all d = (all.0, all-more ps p all.1 d)

params-of : (params : Vec Param) (rest : Option Param) → Calm (params_pieces record { params = params; rest = rest })
params-of params None = let ps = map param_pieces params.items in calm-pair OpenParen CloseParen parens (separated Comma ps) (deep-separated Comma refl ps (params-deep params.items))
params-of params (Some r) =
    let ps = map param_pieces params.items ++ rest_param_pieces r ∷ [] in
    let t = type_pieces r.ty.value in
    calm-pair OpenParen CloseParen parens (separated Comma ps) (deep-separated Comma refl ps (all-more (map param_pieces params.items) (rest_param_pieces r) (params-deep params.items)
    (deep-both (starts r.at) (as_rest t & word_pieces r.name) (deep-starts r.at) (deep-both (as_rest t) (word_pieces r.name) (deep-both t (sign Ellipsis) (type-calm r.ty.value).calm.deep (deep-sign Ellipsis refl)) (deep-word r.name)))))

params-calm : (p : Params) → Calm (params_pieces p)
params-calm p = params-of p.params p.rest

-- ---- the shape once operators stand there

keeps : (d : ℕ) (k : TokenKind) → step_at d (so_far operators) k ≡ so_far operators
keeps zero k = refl
keeps (suc d) k = refl

pub absorbed : (d : ℕ) (ks : Kinds) → shape (so_far operators) d ks ≡ so_far operators
absorbed d [] = refl
absorbed d (k ∷ ks) = ap (λ s. option_map_or (λ e. shape s e ks) (depth_behind k d) (so_far operators)) (keeps d k) ∙ on (depth_behind k d) (λ e. absorbed e ks)
  where
    on : (o : Option ℕ) → ((e : ℕ) → shape (so_far operators) e ks ≡ so_far operators) → option_map_or (λ e. shape (so_far operators) e ks) o (so_far operators) ≡ so_far operators
    on None h = refl
    on (Some e) h = h e

-- a sign that goes on with no expression but as an operator
abbrev is_operator : Sign → Bool
is_operator Dot = false
is_operator QuestionDot = false
is_operator OpenParen = false
is_operator OpenBracket = false
is_operator Colon = false
is_operator CloseParen = false
is_operator CloseBracket = false
is_operator OpenBrace = false
is_operator CloseBrace = false
is_operator OpenBraceBar = false
is_operator CloseBraceBar = false
is_operator s = true

operator-behind : (l : Last) (s : Sign) (ks : Kinds) → is_operator s ≡ true → shape (so_far l) 0 (SignKind s ∷ ks) ≡ shape (so_far operators) 0 ks
operator-behind name_alone Dot ks h = cc h
operator-behind name_alone QuestionDot ks h = cc h
operator-behind name_alone OpenParen ks h = cc h
operator-behind name_alone OpenBracket ks h = cc h
operator-behind name_alone Colon ks h = cc h
operator-behind name_alone CloseParen ks h = cc h
operator-behind name_alone CloseBracket ks h = cc h
operator-behind name_alone OpenBrace ks h = cc h
operator-behind name_alone CloseBrace ks h = cc h
operator-behind name_alone OpenBraceBar ks h = cc h
operator-behind name_alone CloseBraceBar ks h = cc h
operator-behind name_alone s ks h = refl
operator-behind other_alone Dot ks h = cc h
operator-behind other_alone QuestionDot ks h = cc h
operator-behind other_alone OpenParen ks h = cc h
operator-behind other_alone OpenBracket ks h = cc h
operator-behind other_alone Colon ks h = cc h
operator-behind other_alone CloseParen ks h = cc h
operator-behind other_alone CloseBracket ks h = cc h
operator-behind other_alone OpenBrace ks h = cc h
operator-behind other_alone CloseBrace ks h = cc h
operator-behind other_alone OpenBraceBar ks h = cc h
operator-behind other_alone CloseBraceBar ks h = cc h
operator-behind other_alone s ks h = refl
operator-behind arguments_last Dot ks h = cc h
operator-behind arguments_last QuestionDot ks h = cc h
operator-behind arguments_last OpenParen ks h = cc h
operator-behind arguments_last OpenBracket ks h = cc h
operator-behind arguments_last Colon ks h = cc h
operator-behind arguments_last CloseParen ks h = cc h
operator-behind arguments_last CloseBracket ks h = cc h
operator-behind arguments_last OpenBrace ks h = cc h
operator-behind arguments_last CloseBrace ks h = cc h
operator-behind arguments_last OpenBraceBar ks h = cc h
operator-behind arguments_last CloseBraceBar ks h = cc h
operator-behind arguments_last s ks h = refl
operator-behind field_last Dot ks h = cc h
operator-behind field_last QuestionDot ks h = cc h
operator-behind field_last OpenParen ks h = cc h
operator-behind field_last OpenBracket ks h = cc h
operator-behind field_last Colon ks h = cc h
operator-behind field_last CloseParen ks h = cc h
operator-behind field_last CloseBracket ks h = cc h
operator-behind field_last OpenBrace ks h = cc h
operator-behind field_last CloseBrace ks h = cc h
operator-behind field_last OpenBraceBar ks h = cc h
operator-behind field_last CloseBraceBar ks h = cc h
operator-behind field_last s ks h = refl
operator-behind optional_last Dot ks h = cc h
operator-behind optional_last QuestionDot ks h = cc h
operator-behind optional_last OpenParen ks h = cc h
operator-behind optional_last OpenBracket ks h = cc h
operator-behind optional_last Colon ks h = cc h
operator-behind optional_last CloseParen ks h = cc h
operator-behind optional_last CloseBracket ks h = cc h
operator-behind optional_last OpenBrace ks h = cc h
operator-behind optional_last CloseBrace ks h = cc h
operator-behind optional_last OpenBraceBar ks h = cc h
operator-behind optional_last CloseBraceBar ks h = cc h
operator-behind optional_last s ks h = refl
operator-behind index_last Dot ks h = cc h
operator-behind index_last QuestionDot ks h = cc h
operator-behind index_last OpenParen ks h = cc h
operator-behind index_last OpenBracket ks h = cc h
operator-behind index_last Colon ks h = cc h
operator-behind index_last CloseParen ks h = cc h
operator-behind index_last CloseBracket ks h = cc h
operator-behind index_last OpenBrace ks h = cc h
operator-behind index_last CloseBrace ks h = cc h
operator-behind index_last OpenBraceBar ks h = cc h
operator-behind index_last CloseBraceBar ks h = cc h
operator-behind index_last s ks h = refl
operator-behind operators Dot ks h = cc h
operator-behind operators QuestionDot ks h = cc h
operator-behind operators OpenParen ks h = cc h
operator-behind operators OpenBracket ks h = cc h
operator-behind operators Colon ks h = cc h
operator-behind operators CloseParen ks h = cc h
operator-behind operators CloseBracket ks h = cc h
operator-behind operators OpenBrace ks h = cc h
operator-behind operators CloseBrace ks h = cc h
operator-behind operators OpenBraceBar ks h = cc h
operator-behind operators CloseBraceBar ks h = cc h
operator-behind operators s ks h = refl

is-behind : (l : Last) (ks : Kinds) → shape (so_far l) 0 (KeywordKind Is ∷ ks) ≡ shape (so_far operators) 0 ks
is-behind name_alone ks = refl
is-behind other_alone ks = refl
is-behind arguments_last ks = refl
is-behind field_last ks = refl
is-behind optional_last ks = refl
is-behind index_last ks = refl
is-behind operators ks = refl

abbrev is_some_last : Last → Bool
is_some_last operators = false
is_some_last l = true

bracket-behind : (l : Last) (ks : Kinds) → is_some_last l ≡ true → shape (so_far l) 0 (SignKind OpenBracket ∷ ks) ≡ shape (so_far index_last) 1 ks
bracket-behind name_alone ks h = refl
bracket-behind other_alone ks h = refl
bracket-behind arguments_last ks h = refl
bracket-behind field_last ks h = refl
bracket-behind optional_last ks h = refl
bracket-behind index_last ks h = refl
bracket-behind operators ks h = cc h

paren-behind : (l : Last) (ks : Kinds) → is_some_last l ≡ true → shape (so_far l) 0 (SignKind OpenParen ∷ ks) ≡ shape (so_far arguments_last) 1 ks
paren-behind name_alone ks h = refl
paren-behind other_alone ks h = refl
paren-behind arguments_last ks h = refl
paren-behind field_last ks h = refl
paren-behind optional_last ks h = refl
paren-behind index_last ks h = refl
paren-behind operators ks h = cc h

dot-behind : (l : Last) (w : Word) (ks : Kinds) → is_some_last l ≡ true → shape (so_far l) 0 (SignKind Dot ∷ WordKind w.name ∷ ks) ≡ shape (so_far field_last) 0 ks
dot-behind name_alone w ks h = refl
dot-behind other_alone w ks h = refl
dot-behind arguments_last w ks h = refl
dot-behind field_last w ks h = refl
dot-behind optional_last w ks h = refl
dot-behind index_last w ks h = refl
dot-behind operators w ks h = cc h

question-behind : (l : Last) (w : Word) (ks : Kinds) → is_some_last l ≡ true → shape (so_far l) 0 (SignKind QuestionDot ∷ WordKind w.name ∷ ks) ≡ shape (so_far optional_last) 0 ks
question-behind name_alone w ks h = refl
question-behind other_alone w ks h = refl
question-behind arguments_last w ks h = refl
question-behind field_last w ks h = refl
question-behind optional_last w ks h = refl
question-behind index_last w ks h = refl
question-behind operators w ks h = cc h

-- ---- how expressions begin

no-check : (xs : Kinds) → begins_word xs ≡ false → begins_with_check xs ≡ false
no-check [] h = refl
no-check (KeywordKind CheckKey ∷ xs) h = cc h
no-check (KeywordKind CheckPanicKey ∷ xs) h = cc h
no-check (KeywordKind TrapKey ∷ xs) h = refl
no-check (KeywordKind k ∷ xs) h = refl
no-check (k ∷ xs) h = refl

ops : (op : BinaryOp) (ks : Kinds) → ((is_quiet (binary_sign op) ≡ true) × (is_operator (binary_sign op) ≡ true)) × (goes_on (SignKind (binary_sign op) ∷ ks) ≡ true)
ops binary.Multiply ks = ((refl, refl), refl)
ops binary.Divide ks = ((refl, refl), refl)
ops binary.Remainder ks = ((refl, refl), refl)
ops binary.Add ks = ((refl, refl), refl)
ops binary.Subtract ks = ((refl, refl), refl)
ops binary.Less ks = ((refl, refl), refl)
ops binary.LessEqual ks = ((refl, refl), refl)
ops binary.Greater ks = ((refl, refl), refl)
ops binary.GreaterEqual ks = ((refl, refl), refl)
ops binary.Equal ks = ((refl, refl), refl)
ops binary.NotEqual ks = ((refl, refl), refl)
ops binary.Same ks = ((refl, refl), refl)
ops binary.NotSame ks = ((refl, refl), refl)
ops binary.And ks = ((refl, refl), refl)
ops binary.Or ks = ((refl, refl), refl)
ops binary.Elvis ks = ((refl, refl), refl)

-- ---- what is claimed

-- an expression without operators but suffixes, which ends so
pub record SuffixCalm (p : Pieces) (last : Last) : Type 0 where
  pub calm : Calm p
  pub leads : (ks : Kinds) → goes_on ks ≡ true → leads (onto p ks) ≡ true
  pub no_action : (ks : Kinds) → begins_simple (onto p ks) ≡ false
  pub no_word : (ks : Kinds) → begins_word (onto p ks) ≡ false
  pub is_some : is_some_last last ≡ true
  pub front : (ks : Kinds) → shape nothing_yet 0 (onto p ks) ≡ shape (so_far last) 0 ks

abbrev pub Front : Last → Shape → Kinds → Type 0
Front operators s ks = last_in s ≡ operators
Front l s ks = s ≡ shape (so_far l) 0 ks

-- any expression, which begins with `check` or `checkpanic` or not, and ends so
pub record ExprCalm (p : Pieces) (check : Bool) (last : Last) : Type 0 where
  pub calm : Calm p
  pub leads : (ks : Kinds) → goes_on ks ≡ true → leads (onto p ks) ≡ true
  pub no_action : (ks : Kinds) → begins_simple (onto p ks) ≡ false
  pub checks : (ks : Kinds) → begins_with_check (onto p ks) ≡ check
  pub front : (ks : Kinds) → Front last (shape nothing_yet 0 (onto p ks)) ks

-- a member of a mapping or its key
pub record MemberCalm (p : Pieces) : Type 0 where
  pub calm : Calm p
  pub first : (ks : Kinds) → semicolon 0 (onto p ks) ≡ None → may_be_mapping (onto p ks) ≡ true

as-front : (l : Last) (s : Shape) (ks : Kinds) → is_some_last l ≡ true → s ≡ shape (so_far l) 0 ks → Front l s ks
as-front name_alone s ks h e = e
as-front other_alone s ks h e = e
as-front arguments_last s ks h e = e
as-front field_last s ks h e = e
as-front optional_last s ks h e = e
as-front index_last s ks h e = e
as-front operators s ks h e = cc h

-- an operator behind an operand
past-operator : (p : Pieces) (l : Last) (s : Sign) (ks : Kinds) → is_operator s ≡ true → Front l (shape nothing_yet 0 (onto p (SignKind s ∷ ks))) (SignKind s ∷ ks) → last_in (shape nothing_yet 0 (onto p (SignKind s ∷ ks))) ≡ operators
past-operator p operators s ks h f = f
past-operator p name_alone s ks h f = ap last_in (f ∙ operator-behind name_alone s ks h ∙ absorbed 0 ks)
past-operator p other_alone s ks h f = ap last_in (f ∙ operator-behind other_alone s ks h ∙ absorbed 0 ks)
past-operator p arguments_last s ks h f = ap last_in (f ∙ operator-behind arguments_last s ks h ∙ absorbed 0 ks)
past-operator p field_last s ks h f = ap last_in (f ∙ operator-behind field_last s ks h ∙ absorbed 0 ks)
past-operator p optional_last s ks h f = ap last_in (f ∙ operator-behind optional_last s ks h ∙ absorbed 0 ks)
past-operator p index_last s ks h f = ap last_in (f ∙ operator-behind index_last s ks h ∙ absorbed 0 ks)

past-is : (p : Pieces) (l : Last) (ks : Kinds) → Front l (shape nothing_yet 0 (onto p (KeywordKind Is ∷ ks))) (KeywordKind Is ∷ ks) → last_in (shape nothing_yet 0 (onto p (KeywordKind Is ∷ ks))) ≡ operators
past-is p operators ks f = f
past-is p name_alone ks f = ap last_in (f ∙ is-behind name_alone ks ∙ absorbed 0 ks)
past-is p other_alone ks f = ap last_in (f ∙ is-behind other_alone ks ∙ absorbed 0 ks)
past-is p arguments_last ks f = ap last_in (f ∙ is-behind arguments_last ks ∙ absorbed 0 ks)
past-is p field_last ks f = ap last_in (f ∙ is-behind field_last ks ∙ absorbed 0 ks)
past-is p optional_last ks f = ap last_in (f ∙ is-behind optional_last ks ∙ absorbed 0 ks)
past-is p index_last ks f = ap last_in (f ∙ is-behind index_last ks ∙ absorbed 0 ks)

abbrev Claim_call : Call → Type 0
Claim_call t = SuffixCalm (call_pieces t) (of_call lasts t)

abbrev Claim_expr : Expr → Type 0
Claim_expr t = ExprCalm (expr_pieces t) (of_expr facts t).begins_with_check (of_expr lasts t)

abbrev Claim_key : Key → Type 0
Claim_key t = MemberCalm (key_pieces t)

abbrev Claim_postfix : Postfix → Type 0
Claim_postfix t = SuffixCalm (postfix_pieces t) (of_postfix lasts t)

abbrev Claim_primary : Primary → Type 0
Claim_primary t = SuffixCalm (primary_pieces t) (of_primary lasts t)

abbrev Claim_detail : Detail → Type 0
Claim_detail t = Deep (detail_pieces t)

abbrev Claim_member : Member → Type 0
Claim_member t = MemberCalm (member_pieces t)

abbrev ACall : Type 0
ACall = (t : Call) × Claim_call t

abbrev AnExpr : Type 0
AnExpr = (t : Expr) × Claim_expr t

abbrev AKey : Type 0
AKey = (t : Key) × Claim_key t

abbrev APostfix : Type 0
APostfix = (t : Postfix) × Claim_postfix t

abbrev APrimary : Type 0
APrimary = (t : Primary) × Claim_primary t

abbrev ADetail : Type 0
ADetail = (t : Detail) × Claim_detail t

abbrev AMember : Type 0
AMember = (t : Member) × Claim_member t

-- ---- lists of parts

exprs-deep : (xs : List AnExpr) → AllDeep (λ p. p) (map expr_pieces (map (λ e. e.0) xs))
exprs-deep [] = tt
exprs-deep (x ∷ xs) = (x.1.calm.deep, exprs-deep xs)

members-deep : (xs : List AMember) → AllDeep (λ p. p) (map member_pieces (map (λ e. e.0) xs))
members-deep [] = tt
members-deep (x ∷ xs) = (x.1.calm.deep, members-deep xs)

details-deep : (xs : List ADetail) → AllDeep (λ p. p) (map detail_pieces (map (λ e. e.0) xs))
details-deep [] = tt
details-deep (x ∷ xs) = (x.1, details-deep xs)

args-calm : (xs : List AnExpr) → Calm (arguments (map expr_pieces (map (λ e. e.0) xs)))
args-calm xs = let ps = map expr_pieces (map (λ e. e.0) xs) in calm-pair OpenParen CloseParen parens (separated Comma ps) (deep-separated Comma refl ps (exprs-deep xs))

-- behind an opening bracket, whatever is in it
closed-paren : (l : Last) (p : Pieces) (ks : Kinds) → Deep p → shape (so_far l) 1 (onto p (SignKind CloseParen ∷ ks)) ≡ shape (so_far l) 0 ks
closed-paren l p ks d = d.shape (so_far l) 0 (SignKind CloseParen ∷ ks)

closed-bracket : (l : Last) (p : Pieces) (ks : Kinds) → Deep p → shape (so_far l) 1 (onto p (SignKind CloseBracket ∷ ks)) ≡ shape (so_far l) 0 ks
closed-bracket l p ks d = d.shape (so_far l) 0 (SignKind CloseBracket ∷ ks)

closed-brace : (l : Last) (p : Pieces) (ks : Kinds) → Deep p → shape (so_far l) 1 (onto p (SignKind CloseBrace ∷ ks)) ≡ shape (so_far l) 0 ks
closed-brace l p ks d = d.shape (so_far l) 0 (SignKind CloseBrace ∷ ks)

behind-members : (xs : List AMember) (ks : Kinds) → semicolon 0 (onto (behind Comma (map member_pieces (map (λ e. e.0) xs))) ks) ≡ semicolon 0 ks
behind-members [] ks = refl
behind-members (x ∷ xs) ks = x.1.calm.passes.semicolon 0 (onto (behind Comma (map member_pieces (map (λ e. e.0) xs))) ks) ∙ behind-members xs ks

mapping-leads : (xs : List AMember) (ks : Kinds) → goes_on ks ≡ true → may_be_mapping (onto (separated Comma (map member_pieces (map (λ e. e.0) xs))) (SignKind CloseBrace ∷ ks)) ≡ true
mapping-leads [] ks g = g
mapping-leads (x ∷ xs) ks g =
    let zs = onto (behind Comma (map member_pieces (map (λ e. e.0) xs))) (SignKind CloseBrace ∷ ks) in
    x.1.first zs (x.1.calm.passes.semicolon 0 zs ∙ behind-members xs (SignKind CloseBrace ∷ ks))

-- ---- one layer of a tree, of whose parts it is known

abbrev firsts_of_call : Call-F ACall AnExpr AKey APostfix APrimary ADetail AMember → Call-F Call Expr Key Postfix Primary Detail Member
firsts_of_call = map-Call ACall AnExpr AKey APostfix APrimary ADetail AMember Call Expr Key Postfix Primary Detail Member (λ e. e.0) (λ e. e.0) (λ e. e.0) (λ e. e.0) (λ e. e.0) (λ e. e.0) (λ e. e.0)

abbrev Layer_call : Call-F ACall AnExpr AKey APostfix APrimary ADetail AMember → Type 0
Layer_call y = SuffixCalm (writing.call (parts_of_call writing (firsts_of_call y))) (lasts.call (parts_of_call lasts (firsts_of_call y)))

abbrev firsts_of_expr : Expr-F ACall AnExpr AKey APostfix APrimary ADetail AMember → Expr-F Call Expr Key Postfix Primary Detail Member
firsts_of_expr = map-Expr ACall AnExpr AKey APostfix APrimary ADetail AMember Call Expr Key Postfix Primary Detail Member (λ e. e.0) (λ e. e.0) (λ e. e.0) (λ e. e.0) (λ e. e.0) (λ e. e.0) (λ e. e.0)

abbrev Layer_expr : Expr-F ACall AnExpr AKey APostfix APrimary ADetail AMember → Type 0
Layer_expr y = ExprCalm (writing.expr (parts_of_expr writing (firsts_of_expr y))) (facts.expr (parts_of_expr facts (firsts_of_expr y))).begins_with_check (lasts.expr (parts_of_expr lasts (firsts_of_expr y)))

abbrev firsts_of_key : Key-F ACall AnExpr AKey APostfix APrimary ADetail AMember → Key-F Call Expr Key Postfix Primary Detail Member
firsts_of_key = map-Key ACall AnExpr AKey APostfix APrimary ADetail AMember Call Expr Key Postfix Primary Detail Member (λ e. e.0) (λ e. e.0) (λ e. e.0) (λ e. e.0) (λ e. e.0) (λ e. e.0) (λ e. e.0)

abbrev Layer_key : Key-F ACall AnExpr AKey APostfix APrimary ADetail AMember → Type 0
Layer_key y = MemberCalm (writing.key (parts_of_key writing (firsts_of_key y)))

abbrev firsts_of_postfix : Postfix-F ACall AnExpr AKey APostfix APrimary ADetail AMember → Postfix-F Call Expr Key Postfix Primary Detail Member
firsts_of_postfix = map-Postfix ACall AnExpr AKey APostfix APrimary ADetail AMember Call Expr Key Postfix Primary Detail Member (λ e. e.0) (λ e. e.0) (λ e. e.0) (λ e. e.0) (λ e. e.0) (λ e. e.0) (λ e. e.0)

abbrev Layer_postfix : Postfix-F ACall AnExpr AKey APostfix APrimary ADetail AMember → Type 0
Layer_postfix y = SuffixCalm (writing.postfix (parts_of_postfix writing (firsts_of_postfix y))) (lasts.postfix (parts_of_postfix lasts (firsts_of_postfix y)))

abbrev firsts_of_primary : Primary-F ACall AnExpr AKey APostfix APrimary ADetail AMember → Primary-F Call Expr Key Postfix Primary Detail Member
firsts_of_primary = map-Primary ACall AnExpr AKey APostfix APrimary ADetail AMember Call Expr Key Postfix Primary Detail Member (λ e. e.0) (λ e. e.0) (λ e. e.0) (λ e. e.0) (λ e. e.0) (λ e. e.0) (λ e. e.0)

abbrev Layer_primary : Primary-F ACall AnExpr AKey APostfix APrimary ADetail AMember → Type 0
Layer_primary y = SuffixCalm (writing.primary (parts_of_primary writing (firsts_of_primary y))) (lasts.primary (parts_of_primary lasts (firsts_of_primary y)))

abbrev firsts_of_detail : Detail-F ACall AnExpr AKey APostfix APrimary ADetail AMember → Detail-F Call Expr Key Postfix Primary Detail Member
firsts_of_detail = map-Detail ACall AnExpr AKey APostfix APrimary ADetail AMember Call Expr Key Postfix Primary Detail Member (λ e. e.0) (λ e. e.0) (λ e. e.0) (λ e. e.0) (λ e. e.0) (λ e. e.0) (λ e. e.0)

abbrev Layer_detail : Detail-F ACall AnExpr AKey APostfix APrimary ADetail AMember → Type 0
Layer_detail y = Deep (writing.detail (parts_of_detail writing (firsts_of_detail y)))

abbrev firsts_of_member : Member-F ACall AnExpr AKey APostfix APrimary ADetail AMember → Member-F Call Expr Key Postfix Primary Detail Member
firsts_of_member = map-Member ACall AnExpr AKey APostfix APrimary ADetail AMember Call Expr Key Postfix Primary Detail Member (λ e. e.0) (λ e. e.0) (λ e. e.0) (λ e. e.0) (λ e. e.0) (λ e. e.0) (λ e. e.0)

abbrev Layer_member : Member-F ACall AnExpr AKey APostfix APrimary ADetail AMember → Type 0
Layer_member y = MemberCalm (writing.member (parts_of_member writing (firsts_of_member y)))

call-layer : (y : Call-F ACall AnExpr AKey APostfix APrimary ADetail AMember) → Layer_call y
call-layer (layer.«Call::Function» callee args at) =
    let c = callee.value.1 in
    let p = postfix_pieces callee.value.0 in
    let l = postfix_last callee.value.0 in
    let q = separated Comma (map expr_pieces (map (λ e. e.0) args.items)) in
    let a = sign OpenParen & q & sign CloseParen in
    let inner = deep-separated Comma refl (map expr_pieces (map (λ e. e.0) args.items)) (exprs-deep args.items) in
    record {
      calm = calm-at at (p & a) (calm-both p a c.calm (args-calm args.items));
      leads = λ ks g. c.leads (onto a ks) refl;
      no_action = λ ks. c.no_action (onto a ks);
      no_word = λ ks. c.no_word (onto a ks);
      is_some = refl;
      front = λ ks. c.front (onto a ks) ∙ paren-behind l (onto q (SignKind CloseParen ∷ ks)) c.is_some ∙ closed-paren arguments_last q ks inner;
    }
call-layer (layer.Method receiver method args at) =
    let c = receiver.value.1 in
    let p = postfix_pieces receiver.value.0 in
    let l = postfix_last receiver.value.0 in
    let q = separated Comma (map expr_pieces (map (λ e. e.0) args.items)) in
    let a = sign OpenParen & q & sign CloseParen in
    let m = sign Dot & word_pieces method & a in
    let inner = deep-separated Comma refl (map expr_pieces (map (λ e. e.0) args.items)) (exprs-deep args.items) in
    record {
      calm = calm-at at (p & m) (calm-both p m c.calm (calm-dot (word_pieces method & a) (calm-both (word_pieces method) a (calm-word method) (args-calm args.items))));
      leads = λ ks g. c.leads (onto m ks) refl;
      no_action = λ ks. c.no_action (onto m ks);
      no_word = λ ks. c.no_word (onto m ks);
      is_some = refl;
      front = λ ks. c.front (onto m ks) ∙ dot-behind l method (onto a ks) c.is_some ∙ closed-paren arguments_last q ks inner;
    }

postfix-layer : (y : Postfix-F ACall AnExpr AKey APostfix APrimary ADetail AMember) → Layer_postfix y
postfix-layer (layer.Primary e) = record { calm = e.1.calm; leads = e.1.leads; no_action = e.1.no_action; no_word = e.1.no_word; is_some = e.1.is_some; front = e.1.front }
postfix-layer (layer.Call e) = record { calm = e.1.calm; leads = e.1.leads; no_action = e.1.no_action; no_word = e.1.no_word; is_some = e.1.is_some; front = e.1.front }
postfix-layer (layer.Field base field at) =
    let c = base.value.1 in
    let p = postfix_pieces base.value.0 in
    let q = sign Dot & word_pieces field in
    record {
      calm = calm-at at (p & q) (calm-both p q c.calm (calm-dot (word_pieces field) (calm-word field)));
      leads = λ ks g. c.leads (onto q ks) refl;
      no_action = λ ks. c.no_action (onto q ks);
      no_word = λ ks. c.no_word (onto q ks);
      is_some = refl;
      front = λ ks. c.front (onto q ks) ∙ dot-behind (postfix_last base.value.0) field ks c.is_some;
    }
postfix-layer (layer.OptionalField base field at) =
    let c = base.value.1 in
    let p = postfix_pieces base.value.0 in
    let q = sign QuestionDot & word_pieces field in
    record {
      calm = calm-at at (p & q) (calm-both p q c.calm (calm-both (sign QuestionDot) (word_pieces field) (calm-sign QuestionDot refl) (calm-word field)));
      leads = λ ks g. c.leads (onto q ks) refl;
      no_action = λ ks. c.no_action (onto q ks);
      no_word = λ ks. c.no_word (onto q ks);
      is_some = refl;
      front = λ ks. c.front (onto q ks) ∙ question-behind (postfix_last base.value.0) field ks c.is_some;
    }
postfix-layer (layer.Index base index at) =
    let c = base.value.1 in
    let p = postfix_pieces base.value.0 in
    let i = expr_pieces index.value.0 in
    let q = sign OpenBracket & i & sign CloseBracket in
    record {
      calm = calm-at at (p & q) (calm-both p q c.calm (calm-pair OpenBracket CloseBracket brackets i index.value.1.calm.deep));
      leads = λ ks g. c.leads (onto q ks) refl;
      no_action = λ ks. c.no_action (onto q ks);
      no_word = λ ks. c.no_word (onto q ks);
      is_some = refl;
      front = λ ks. c.front (onto q ks) ∙ bracket-behind (postfix_last base.value.0) (onto i (SignKind CloseBracket ∷ ks)) c.is_some ∙ closed-bracket index_last i ks index.value.1.calm.deep;
    }

literal-begins : (l : Literal) → SuffixCalm (literal_pieces l) other_alone
literal-begins (Int value at) = record { calm = calm-literal (Int value at); leads = λ ks g. refl; no_action = λ ks. refl; no_word = λ ks. refl; is_some = refl; front = λ ks. refl }
literal-begins (Str text at) = record { calm = calm-literal (Str text at); leads = λ ks g. refl; no_action = λ ks. refl; no_word = λ ks. refl; is_some = refl; front = λ ks. refl }
literal-begins (True at) = record { calm = calm-literal (True at); leads = λ ks g. refl; no_action = λ ks. refl; no_word = λ ks. refl; is_some = refl; front = λ ks. refl }
literal-begins (False at) = record { calm = calm-literal (False at); leads = λ ks g. refl; no_action = λ ks. refl; no_word = λ ks. refl; is_some = refl; front = λ ks. refl }
literal-begins (Nil at) = record { calm = calm-literal (Nil at); leads = λ ks g. refl; no_action = λ ks. refl; no_word = λ ks. refl; is_some = refl; front = λ ks. refl }

name-leads : (prefix : Option Prefix) (w : Word) (ks : Kinds) → ((leads (onto (if_there prefix_pieces prefix & word_pieces w) ks) ≡ true) × (begins_simple (onto (if_there prefix_pieces prefix & word_pieces w) ks) ≡ false)) × ((begins_word (onto (if_there prefix_pieces prefix & word_pieces w) ks) ≡ false) × (shape nothing_yet 0 (onto (if_there prefix_pieces prefix & word_pieces w) ks) ≡ shape (so_far name_alone) 0 ks))
name-leads None w ks = ((refl, refl), (refl, refl))
name-leads (Some (WordPrefix p)) w ks = ((refl, refl), (refl, refl))
name-leads (Some (IntPrefix at)) w ks = ((refl, refl), (refl, refl))

primary-layer : (y : Primary-F ACall AnExpr AKey APostfix APrimary ADetail AMember) → Layer_primary y
primary-layer (layer.Literal l) = literal-begins l
primary-layer (layer.Name n) = record {
  calm = calm-name n;
  leads = λ ks g. (name-leads n.prefix n.word ks).0.0;
  no_action = λ ks. (name-leads n.prefix n.word ks).0.1;
  no_word = λ ks. (name-leads n.prefix n.word ks).1.0;
  is_some = refl;
  front = λ ks. (name-leads n.prefix n.word ks).1.1;
}
primary-layer (layer.Parens inner at) =
    let p = expr_pieces inner.value.0 in
    record {
      calm = calm-at at (sign OpenParen & p & sign CloseParen) (calm-pair OpenParen CloseParen parens p inner.value.1.calm.deep);
      leads = λ ks g. refl;
      no_action = λ ks. refl;
      no_word = λ ks. refl;
      is_some = refl;
      front = λ ks. closed-paren other_alone p ks inner.value.1.calm.deep;
    }
primary-layer (layer.List items at) =
    let ps = map expr_pieces (map (λ e. e.0) items.items) in
    let d = deep-separated Comma refl ps (exprs-deep items.items) in
    record {
      calm = calm-at at (sign OpenBracket & separated Comma ps & sign CloseBracket) (calm-pair OpenBracket CloseBracket brackets (separated Comma ps) d);
      leads = λ ks g. refl;
      no_action = λ ks. refl;
      no_word = λ ks. refl;
      is_some = refl;
      front = λ ks. closed-bracket other_alone (separated Comma ps) ks d;
    }
primary-layer (layer.Mapping members at) =
    let ps = map member_pieces (map (λ e. e.0) members.items) in
    let d = deep-separated Comma refl ps (members-deep members.items) in
    record {
      calm = calm-at at (sign OpenBrace & separated Comma ps & sign CloseBrace) (calm-pair OpenBrace CloseBrace braces (separated Comma ps) d);
      leads = λ ks g. mapping-leads members.items ks g;
      no_action = λ ks. refl;
      no_word = λ ks. refl;
      is_some = refl;
      front = λ ks. closed-brace other_alone (separated Comma ps) ks d;
    }
primary-layer (layer.Error message None details at) =
    let ps = map detail_pieces (map (λ e. e.0) details.items) in
    let p = expr_pieces message.value.0 & nothing & behind Comma ps in
    let d = deep-both (expr_pieces message.value.0) (nothing & behind Comma ps) message.value.1.calm.deep (deep-both nothing (behind Comma ps) deep-nothing (deep-behind Comma refl ps (details-deep details.items))) in
    let a = calm-both (key ErrorKey) (sign OpenParen & p & sign CloseParen) (calm-key ErrorKey) (calm-pair OpenParen CloseParen parens p d) in
    record {
      calm = record { passes = record { semicolon = a.passes.semicolon; mark = a.passes.mark }; not_equal = a.not_equal; deep = record { semicolon = a.deep.semicolon; mark = λ j e ks. a.deep.mark j e ks; shape = a.deep.shape } };
      leads = λ ks g. refl;
      no_action = λ ks. refl;
      no_word = λ ks. refl;
      is_some = refl;
      front = λ ks. closed-paren other_alone p ks d;
    }
primary-layer (layer.Error message (Some cause) details at) =
    let ps = map detail_pieces (map (λ e. e.0) details.items) in
    let n = as_next (expr_pieces cause.value.0) in
    let p = expr_pieces message.value.0 & n & behind Comma ps in
    let d = deep-both (expr_pieces message.value.0) (n & behind Comma ps) message.value.1.calm.deep (deep-both n (behind Comma ps) (deep-both (sign Comma) (expr_pieces cause.value.0) (deep-sign Comma refl) cause.value.1.calm.deep) (deep-behind Comma refl ps (details-deep details.items))) in
    let a = calm-both (key ErrorKey) (sign OpenParen & p & sign CloseParen) (calm-key ErrorKey) (calm-pair OpenParen CloseParen parens p d) in
    record {
      calm = record { passes = record { semicolon = a.passes.semicolon; mark = a.passes.mark }; not_equal = a.not_equal; deep = record { semicolon = a.deep.semicolon; mark = λ j e ks. a.deep.mark j e ks; shape = a.deep.shape } };
      leads = λ ks g. refl;
      no_action = λ ks. refl;
      no_word = λ ks. refl;
      is_some = refl;
      front = λ ks. closed-paren other_alone p ks d;
    }

key-layer : (y : Key-F ACall AnExpr AKey APostfix APrimary ADetail AMember) → Layer_key y
key-layer (layer.Word word) = record { calm = calm-word word; first = λ ks e. ap (λ q. not (is_some q)) e }
key-layer (layer.Str text at) = record { calm = calm-at at (token (StrKind text)) (calm-str text); first = λ ks e. ap (λ q. not (is_some q)) e }
key-layer (layer.Computed value at) =
    let p = expr_pieces value.value.0 in
    record { calm = calm-at at (sign OpenBracket & p & sign CloseBracket) (calm-pair OpenBracket CloseBracket brackets p value.value.1.calm.deep); first = λ ks e. ap (λ q. not (is_some q)) e }

member-layer : (y : Member-F ACall AnExpr AKey APostfix APrimary ADetail AMember) → Layer_member y
member-layer y =
    let k = key_pieces y.key.0 in
    let v = expr_pieces y.value.value.0 in
    let c = calm-at y.at (k & sign Colon & v) (calm-both k (sign Colon & v) y.key.1.calm (calm-colon v y.value.value.1.calm)) in
    record {
      calm = record { passes = record { semicolon = c.passes.semicolon; mark = c.passes.mark }; not_equal = c.not_equal; deep = record { semicolon = c.deep.semicolon; mark = c.deep.mark; shape = c.deep.shape } };
      first = λ ks e. y.key.1.first (onto (sign Colon & v) ks) e;
    }

detail-layer : (y : Detail-F ACall AnExpr AKey APostfix APrimary ADetail AMember) → Layer_detail y
detail-layer y =
    let v = expr_pieces y.value.value.0 in
    let d = deep-both (starts y.at) (word_pieces y.name & sign Equal & v) (deep-starts y.at) (deep-both (word_pieces y.name) (sign Equal & v) (deep-word y.name) (deep-both (sign Equal) v (deep-sign Equal refl) y.value.value.1.calm.deep)) in
    record { semicolon = d.semicolon; mark = d.mark; shape = d.shape }

prefix-calm : (op : PrefixOp) → Calm (prefix_op op)
prefix-calm Negate = calm-sign Minus refl
prefix-calm Not = calm-sign NotSign refl
prefix-calm Check = calm-key CheckKey
prefix-calm CheckPanic = calm-key CheckPanicKey

prefix-begins : (op : PrefixOp) (xs : Kinds) → begins_simple xs ≡ false → (leads (onto (prefix_op op) xs) ≡ true) × ((begins_simple (onto (prefix_op op) xs) ≡ false) × ((begins_with_check (onto (prefix_op op) xs) ≡ is_check op) × (last_in (shape nothing_yet 0 (onto (prefix_op op) xs)) ≡ operators)))
prefix-begins Negate xs h = (refl, (refl, (refl, ap last_in (absorbed 0 xs))))
prefix-begins Not xs h = (refl, (refl, (refl, ap last_in (absorbed 0 xs))))
prefix-begins Check xs h = (refl, (h, (refl, ap last_in (absorbed 0 xs))))
prefix-begins CheckPanic xs h = (refl, (h, (refl, ap last_in (absorbed 0 xs))))

word-begins : (isolated : Bool) (xs : Kinds) → (leads (onto (function_word isolated) xs) ≡ true) × ((begins_simple (onto (function_word isolated) xs) ≡ false) × ((begins_with_check (onto (function_word isolated) xs) ≡ false) × (last_in (shape nothing_yet 0 (onto (function_word isolated) xs)) ≡ operators)))
word-begins true xs = (refl, (refl, (refl, ap last_in (absorbed 0 (onto (function_word false) xs)))))
word-begins false xs = (refl, (refl, (refl, ap last_in (absorbed 0 xs))))

word-calm : (isolated : Bool) → Calm (function_word isolated)
word-calm true = calm-both (key IsolatedKey) (key FunctionKey) (calm-key IsolatedKey) (calm-key FunctionKey)
word-calm false = let a = calm-key FunctionKey in record { passes = record { semicolon = a.passes.semicolon; mark = a.passes.mark }; not_equal = a.not_equal; deep = record { semicolon = a.deep.semicolon; mark = a.deep.mark; shape = a.deep.shape } }

expr-layer : (y : Expr-F ACall AnExpr AKey APostfix APrimary ADetail AMember) → Layer_expr y
expr-layer (layer.Postfix e) =
    let c = e.1 in
    let p = postfix_pieces e.0 in
    record {
      calm = c.calm;
      leads = c.leads;
      no_action = c.no_action;
      checks = λ ks. no-check (onto p ks) (c.no_word ks);
      front = λ ks. as-front (postfix_last e.0) (shape nothing_yet 0 (onto p ks)) ks c.is_some (c.front ks);
    }
expr-layer (layer.Prefix op operand at) =
    let c = operand.value.1 in
    let p = expr_pieces operand.value.0 in
    record {
      calm = calm-at at (prefix_op op & p) (calm-both (prefix_op op) p (prefix-calm op) c.calm);
      leads = λ ks g. (prefix-begins op (onto p ks) (c.no_action ks)).0;
      no_action = λ ks. (prefix-begins op (onto p ks) (c.no_action ks)).1.0;
      checks = λ ks. (prefix-begins op (onto p ks) (c.no_action ks)).1.1.0;
      front = λ ks. (prefix-begins op (onto p ks) (c.no_action ks)).1.1.1;
    }
expr-layer (layer.Cast t operand at) =
    let q = type_pieces t.value in
    let p = expr_pieces operand.value.0 in
    let a = calm-both (sign Less) (q & sign Greater) (calm-sign Less refl) (calm-both q (sign Greater) (type-calm t.value).calm (calm-sign Greater refl)) in
    record {
      calm = calm-at at (in_angles q & p) (calm-both (in_angles q) p a operand.value.1.calm);
      leads = λ ks g. refl;
      no_action = λ ks. refl;
      checks = λ ks. refl;
      front = λ ks. ap last_in (absorbed 0 (onto (q & sign Greater & p) ks));
    }
expr-layer (layer.Binary left op right at) =
    let c = left.value.1 in
    let p = expr_pieces left.value.0 in
    let q = sign (binary_sign op) & expr_pieces right.value.0 in
    record {
      calm = calm-at at (p & q) (calm-both p q c.calm (calm-both (sign (binary_sign op)) (expr_pieces right.value.0) (calm-sign (binary_sign op) (ops op []).0.0) right.value.1.calm));
      leads = λ ks g. c.leads (onto q ks) (ops op (onto (expr_pieces right.value.0) ks)).1;
      no_action = λ ks. c.no_action (onto q ks);
      checks = λ ks. c.checks (onto q ks);
      front = λ ks. past-operator p (last_of left.value.0) (binary_sign op) (onto (expr_pieces right.value.0) ks) (ops op []).0.1 (c.front (onto q ks));
    }
expr-layer (layer.TypeTest operand t at) =
    let c = operand.value.1 in
    let p = expr_pieces operand.value.0 in
    let q = key Is & type_pieces t.value in
    record {
      calm = calm-at at (p & q) (calm-both p q c.calm (calm-both (key Is) (type_pieces t.value) (calm-key Is) (type-calm t.value).calm));
      leads = λ ks g. c.leads (onto q ks) refl;
      no_action = λ ks. c.no_action (onto q ks);
      checks = λ ks. c.checks (onto q ks);
      front = λ ks. past-is p (last_of operand.value.0) (onto (type_pieces t.value) ks) (c.front (onto q ks));
    }
expr-layer (layer.Conditional condition middle last at) =
    let c = condition.value.1 in
    let p = expr_pieces condition.value.0 in
    let m = expr_pieces middle.value.0 in
    let l = sign Colon & expr_pieces last.value.0 in
    let q = sign Question & m & l in
    record {
      calm = calm-at at (p & q) (calm-both p q c.calm (calm-both (sign Question) (m & l) (calm-sign Question refl) (calm-both m l middle.value.1.calm (calm-colon (expr_pieces last.value.0) last.value.1.calm))));
      leads = λ ks g. c.leads (onto q ks) refl;
      no_action = λ ks. c.no_action (onto q ks);
      checks = λ ks. c.checks (onto q ks);
      front = λ ks. past-operator p (last_of condition.value.0) Question (onto (m & l) ks) refl (c.front (onto q ks));
    }
expr-layer (layer.Trap operand at) =
    let p = expr_pieces operand.value.0 in
    record {
      calm = calm-at at (key TrapKey & p) (calm-both (key TrapKey) p (calm-key TrapKey) operand.value.1.calm);
      leads = λ ks g. refl;
      no_action = λ ks. operand.value.1.no_action ks;
      checks = λ ks. refl;
      front = λ ks. ap last_in (absorbed 0 (onto p ks));
    }
expr-layer (layer.«Expr::Function» isolated params result value at) =
    let r = returning (type_pieces result.value) in
    let h = function_word isolated & params_pieces params & r in
    let q = sign FatArrow & expr_pieces value.value.0 in
    let hc = calm-both (function_word isolated) (params_pieces params & r) (word-calm isolated) (calm-both (params_pieces params) r (params-calm params) (calm-both (key ReturnsKey) (type_pieces result.value) (calm-key ReturnsKey) (type-calm result.value).calm)) in
    let rest = params_pieces params & r & q in
    record {
      calm = calm-at at (h & q) (calm-both h q hc (calm-both (sign FatArrow) (expr_pieces value.value.0) (calm-sign FatArrow refl) value.value.1.calm));
      leads = λ ks g. (word-begins isolated (onto rest ks)).0;
      no_action = λ ks. (word-begins isolated (onto rest ks)).1.0;
      checks = λ ks. (word-begins isolated (onto rest ks)).1.1.0;
      front = λ ks. (word-begins isolated (onto rest ks)).1.1.1;
    }

-- ---- the whole

call-step : (x : Call-F Call Expr Key Postfix Primary Detail Member) (y : Call-F ACall AnExpr AKey APostfix APrimary ADetail AMember) → firsts_of_call y ≡ x → Claim_call (roll-Call x)
call-step x y is = subst (λ z. Claim_call (roll-Call z)) is (subst (λ l. SuffixCalm (of_call writing (roll-Call (firsts_of_call y))) l) (sym (rolled-call lasts (firsts_of_call y))) (subst (λ p. SuffixCalm p (lasts.call (parts_of_call lasts (firsts_of_call y)))) (sym (rolled-call writing (firsts_of_call y))) (call-layer y)))

expr-step : (x : Expr-F Call Expr Key Postfix Primary Detail Member) (y : Expr-F ACall AnExpr AKey APostfix APrimary ADetail AMember) → firsts_of_expr y ≡ x → Claim_expr (roll-Expr x)
expr-step x y is = subst (λ z. Claim_expr (roll-Expr z)) is (subst (λ l. ExprCalm (of_expr writing (roll-Expr (firsts_of_expr y))) (of_expr facts (roll-Expr (firsts_of_expr y))).begins_with_check l) (sym (rolled-expr lasts (firsts_of_expr y))) (subst (λ (f : ExprFacts). ExprCalm (of_expr writing (roll-Expr (firsts_of_expr y))) f.begins_with_check (lasts.expr (parts_of_expr lasts (firsts_of_expr y)))) (sym (rolled-expr facts (firsts_of_expr y))) (subst (λ p. ExprCalm p (facts.expr (parts_of_expr facts (firsts_of_expr y))).begins_with_check (lasts.expr (parts_of_expr lasts (firsts_of_expr y)))) (sym (rolled-expr writing (firsts_of_expr y))) (expr-layer y))))

key-step : (x : Key-F Call Expr Key Postfix Primary Detail Member) (y : Key-F ACall AnExpr AKey APostfix APrimary ADetail AMember) → firsts_of_key y ≡ x → Claim_key (roll-Key x)
key-step x y is = subst (λ z. Claim_key (roll-Key z)) is (subst MemberCalm (sym (rolled-key writing (firsts_of_key y))) (key-layer y))

postfix-step : (x : Postfix-F Call Expr Key Postfix Primary Detail Member) (y : Postfix-F ACall AnExpr AKey APostfix APrimary ADetail AMember) → firsts_of_postfix y ≡ x → Claim_postfix (roll-Postfix x)
postfix-step x y is = subst (λ z. Claim_postfix (roll-Postfix z)) is (subst (λ l. SuffixCalm (of_postfix writing (roll-Postfix (firsts_of_postfix y))) l) (sym (rolled-postfix lasts (firsts_of_postfix y))) (subst (λ p. SuffixCalm p (lasts.postfix (parts_of_postfix lasts (firsts_of_postfix y)))) (sym (rolled-postfix writing (firsts_of_postfix y))) (postfix-layer y)))

primary-step : (x : Primary-F Call Expr Key Postfix Primary Detail Member) (y : Primary-F ACall AnExpr AKey APostfix APrimary ADetail AMember) → firsts_of_primary y ≡ x → Claim_primary (roll-Primary x)
primary-step x y is = subst (λ z. Claim_primary (roll-Primary z)) is (subst (λ l. SuffixCalm (of_primary writing (roll-Primary (firsts_of_primary y))) l) (sym (rolled-primary lasts (firsts_of_primary y))) (subst (λ p. SuffixCalm p (lasts.primary (parts_of_primary lasts (firsts_of_primary y)))) (sym (rolled-primary writing (firsts_of_primary y))) (primary-layer y)))

detail-step : (x : Detail-F Call Expr Key Postfix Primary Detail Member) (y : Detail-F ACall AnExpr AKey APostfix APrimary ADetail AMember) → firsts_of_detail y ≡ x → Claim_detail (roll-Detail x)
detail-step x y is = subst (λ z. Claim_detail (roll-Detail z)) is (subst Deep (sym (rolled-detail writing (firsts_of_detail y))) (detail-layer y))

member-step : (x : Member-F Call Expr Key Postfix Primary Detail Member) (y : Member-F ACall AnExpr AKey APostfix APrimary ADetail AMember) → firsts_of_member y ≡ x → Claim_member (roll-Member x)
member-step x y is = subst (λ z. Claim_member (roll-Member z)) is (subst MemberCalm (sym (rolled-member writing (firsts_of_member y))) (member-layer y))

pub expr-calm : (e : Expr) → Claim_expr e
expr-calm = ind-Expr Claim_call Claim_expr Claim_key Claim_postfix Claim_primary Claim_detail Claim_member call-step expr-step key-step postfix-step primary-step detail-step member-step

pub postfix-calm : (e : Postfix) → Claim_postfix e
postfix-calm = ind-Postfix Claim_call Claim_expr Claim_key Claim_postfix Claim_primary Claim_detail Claim_member call-step expr-step key-step postfix-step primary-step detail-step member-step
