-- What is known of types and expressions, on which the law of statements rests.
use Rattle.std.proofs.Common.{◌≡◌, ℕ, Bool, true, false, [], ◌∷◌, Option, None, Some}
use Rattle.bal_base.specs.declared.token.TokenKind.TheVariants.{Word as WordKind, Keyword as KeywordKind, Sign as SignKind}
use Rattle.bal_base.specs.declared.token.Keyword.{Keyword}
use Rattle.bal_base.specs.declared.token.Keyword.TheVariants.{If, Else, While, Foreach, Match, Return, Panic, Break, Continue, Final, Var, Worker, Public, «Type», Const, Import, Check, CheckPanic, Trap}
use Rattle.bal_base.specs.declared.token.Sign.{Sign}
use Rattle.bal_base.specs.declared.token.Sign.TheVariants.{OpenBrace, Underscore, Semicolon, Equal, PlusEqual, MinusEqual, StarEqual, SlashEqual, Arrow, DoubleArrow, Ellipsis, DotDotLess}
use Rattle.bal_tree.specs.declared.expr.Expr.{Expr}
use Rattle.bal_tree.specs.declared.params.Params.{Params}
use Rattle.bal_tree.specs.declared.types.TypeTree.{TypeTree}
use Rattle.bal_tree.specs.declared.expr.Postfix.{Postfix}
use Rattle.bal_tree.specs.ExprPieces.{expr_pieces, postfix_pieces}
use Rattle.bal_tree.specs.ExprRules.{expr_facts, expr_is_formed}
use Rattle.bal_tree.specs.Spells.{onto}
use Rattle.bal_tree.specs.TypePieces.{type_pieces, params_pieces, function_word}
use Rattle.bal_base.specs.declared.text.Name.{Name}
use Rattle.bal_tree.specs.TypeRules.{type_is_formed, params_are_formed}
use Rattle.token_steps.specs.Tokens.{Kinds}
use Rattle.parse_types.proofs.Follows.{Closes}
use Rattle.parse_expr.specs.Reaches.{expr, params, type_at}
use Rattle.parse_stmt.specs.Reaches.{begins_simple, begins_with_check, goes_on, may_be_mapping}
use Rattle.parse_stmt.specs.Shapes.{last_of, last_read}
use Rattle.parse_stmt.proofs.Passing.{Passes}

-- a statement that begins with this word of the language begins with a type, an expression or an action
abbrev pub led_key : Keyword → Bool
led_key If = false
led_key Else = false
led_key While = false
led_key Foreach = false
led_key Match = false
led_key Return = false
led_key Panic = false
led_key Break = false
led_key Continue = false
led_key Final = false
led_key Var = false
led_key Worker = false
led_key Public = false
led_key «Type» = false
led_key Const = false
led_key Import = false
led_key k = true

-- so does one whose first tokens are these
abbrev pub leads : Kinds → Bool
leads [] = false
leads (KeywordKind k ∷ ks) = led_key k
leads (SignKind OpenBrace ∷ ks) = may_be_mapping ks
leads (SignKind Underscore ∷ ks) = false
leads (SignKind Semicolon ∷ ks) = false
leads (k ∷ ks) = true

-- the first token is `check`, `checkpanic` or `trap`
abbrev pub begins_word : Kinds → Bool
begins_word (KeywordKind Check ∷ ks) = true
begins_word (KeywordKind CheckPanic ∷ ks) = true
begins_word (KeywordKind Trap ∷ ks) = true
begins_word ks = false

-- what stands behind the expressions of statements
abbrev pub ends_expr : Sign → Bool
ends_expr Semicolon = true
ends_expr Equal = true
ends_expr PlusEqual = true
ends_expr MinusEqual = true
ends_expr StarEqual = true
ends_expr SlashEqual = true
ends_expr Arrow = true
ends_expr DoubleArrow = true
ends_expr OpenBrace = true
ends_expr Ellipsis = true
ends_expr DotDotLess = true
ends_expr s = false

pub record Known : Type 0 where
  pub type_passes : (t : TypeTree) → Passes (type_pieces t)
  pub type_leads : (t : TypeTree) (ks : Kinds) → leads (onto (type_pieces t) ks) ≡ true
  pub type_before : (t : TypeTree) (ks : Kinds) → type_is_formed t false ≡ true → Closes ks → type_at false (onto (type_pieces t) ks) ≡ Some ks
  pub no_type : (ks : Kinds) → type_at false (KeywordKind Worker ∷ ks) ≡ None
  pub no_expr : (ks : Kinds) → expr (KeywordKind Worker ∷ ks) ≡ None
  pub any_function : (isolated : Bool) (w : Name) (ks : Kinds) → type_at false (onto (function_word isolated) (WordKind w ∷ ks)) ≡ Some (WordKind w ∷ ks)
  pub params_law : (p : Params) (ks : Kinds) → params_are_formed p ≡ true → params (onto (params_pieces p) ks) ≡ Some ks
  pub expr_passes : (e : Expr) → Passes (expr_pieces e)
  pub expr_leads : (e : Expr) (ks : Kinds) → goes_on ks ≡ true → leads (onto (expr_pieces e) ks) ≡ true
  pub expr_before : (e : Expr) (s : Sign) (ks : Kinds) → expr_is_formed e false ≡ true → ends_expr s ≡ true → expr (onto (expr_pieces e) (SignKind s ∷ ks)) ≡ Some (SignKind s ∷ ks)
  pub no_action : (e : Expr) (ks : Kinds) → begins_simple (onto (expr_pieces e) ks) ≡ false
  pub checks : (e : Expr) (ks : Kinds) → begins_with_check (onto (expr_pieces e) ks) ≡ (expr_facts e).begins_with_check
  pub no_word : (p : Postfix) (ks : Kinds) → begins_word (onto (postfix_pieces p) ks) ≡ false
  pub last_law : (e : Expr) (ks : Kinds) → last_read (onto (expr_pieces e) ks) ks ≡ last_of e
