-- What the readers of types and expressions give to those of statements.
use Rattle.std.proofs.Common.{◌≡◌, Bool, true, false, ◌∷◌, Option, None, Some, refl}
use Rattle.bal_base.specs.declared.text.Name.{Name}
use Rattle.bal_base.specs.declared.token.TokenKind.TheVariants.{Word as WordKind, Keyword as KeywordKind, Sign as SignKind}
use Rattle.bal_base.specs.declared.token.Keyword.TheVariants.{Worker}
use Rattle.bal_tree.specs.Spells.{onto}
use Rattle.bal_tree.specs.TypePieces.{function_word}
use Rattle.parse_types.specs.Loops.{many}
use Rattle.parse_types.specs.Reaches.{longest_type, union, intersection, postfix as type_postfix}
use Rattle.token_steps.specs.Tokens.{Kinds}
use Rattle.parse_expr.specs.Operators.{reads}
use Rattle.parse_expr.specs.Reaches.{expr, postfix, type_at, up_to}
use Rattle.parse_stmt.proofs.ExprKnown.{checks-law, last-law}
use Rattle.parse_stmt.proofs.ExprsCalm.{expr-calm, postfix-calm}
use Rattle.bal_base.specs.declared.token.Sign.{Sign}
use Rattle.bal_base.specs.declared.token.Sign.TheVariants.{Semicolon, Equal, PlusEqual, MinusEqual, StarEqual, SlashEqual, Arrow, DoubleArrow, OpenBrace, Ellipsis, DotDotLess}
use Rattle.parse_expr.proofs.Follows.{Closes, closes}
use Rattle.parse_expr.proofs.Parsing.{expr-before}
use Rattle.parse_expr.proofs.ParamsLaw.{params-law}
use Rattle.parse_expr.proofs.TypeLaws.{type-before}
use Rattle.parse_stmt.proofs.Known.{Known, ends_expr}
use Rattle.parse_stmt.proofs.TypesCalm.{type-calm}

-- no type and no expression begins with `worker`
no-type : (ks : Kinds) → type_at false (KeywordKind Worker ∷ ks) ≡ None
unfolding type_at longest_type union intersection type_postfix
no-type ks = refl

no-expr : (ks : Kinds) → expr (KeywordKind Worker ∷ ks) ≡ None
unfolding up_to reads postfix
no-expr ks = refl

-- `function` before a word is a type
any-function : (isolated : Bool) (w : Name) (ks : Kinds) → type_at false (onto (function_word isolated) (WordKind w ∷ ks)) ≡ Some (WordKind w ∷ ks)
unfolding type_at longest_type union intersection type_postfix many
any-function true w ks = refl
any-function false w ks = refl

-- what stands behind the expressions of statements ends them
closes-at : (s : Sign) (ks : Kinds) → ends_expr s ≡ true → Closes (SignKind s ∷ ks)
closes-at Semicolon ks h = closes Semicolon ks refl
closes-at Equal ks h = closes Equal ks refl
closes-at PlusEqual ks h = closes PlusEqual ks refl
closes-at MinusEqual ks h = closes MinusEqual ks refl
closes-at StarEqual ks h = closes StarEqual ks refl
closes-at SlashEqual ks h = closes SlashEqual ks refl
closes-at Arrow ks h = closes Arrow ks refl
closes-at DoubleArrow ks h = closes DoubleArrow ks refl
closes-at OpenBrace ks h = closes OpenBrace ks refl
closes-at Ellipsis ks h = closes Ellipsis ks refl
closes-at DotDotLess ks h = closes DotDotLess ks refl
closes-at s ks h = cc h

pub known : Known
known = record {
  type_passes = λ t. (type-calm t).calm.passes;
  type_leads = λ t ks. (type-calm t).leads ks;
  type_before = λ t ks f c. type-before t false ks f c;
  no_type = no-type;
  no_expr = no-expr;
  any_function = any-function;
  params_law = λ p ks f. params-law p ks f;
  expr_passes = λ e. (expr-calm e).calm.passes;
  expr_leads = λ e ks g. (expr-calm e).leads ks g;
  expr_before = λ e s ks f h. expr-before e (SignKind s ∷ ks) f (closes-at s ks h);
  no_action = λ e ks. (expr-calm e).no_action ks;
  checks = λ e ks. checks-law e ks;
  no_word = λ p ks. (postfix-calm p).no_word ks;
  last_law = λ e ks. last-law e ks;
}
