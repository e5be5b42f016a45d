-- What a function that reads expressions says of its answer.
use Rattle.std.specs.Prelude.{◌≡◌, ℕ, ◌≤◌, Bool, true, false, List, None, drop}
use Rattle.bal_base.specs.declared.fault.Fault.{Fault}
use Rattle.bal_base.specs.declared.fault.FaultCode.TheVariants.{Syntax}
use Rattle.bal_base.specs.declared.token.Sign.TheVariants.{Question}
use Rattle.bal_base.specs.declared.token.Token.{Token}
use Rattle.bal_tree.specs.declared.expr.Call.{Call}
use Rattle.bal_tree.specs.declared.expr.Detail.{Detail}
use Rattle.bal_tree.specs.declared.expr.Expr.{Expr}
use Rattle.bal_tree.specs.declared.expr.Key.{Key}
use Rattle.bal_tree.specs.declared.expr.Member.{Member}
use Rattle.bal_tree.specs.declared.expr.Postfix.{Postfix}
use Rattle.bal_tree.specs.declared.expr.Primary.{Primary}
use Rattle.bal_tree.specs.declared.level.Level.{Level}
use Rattle.bal_tree.specs.declared.name.QualifiedName.{QualifiedName}
use Rattle.bal_tree.specs.declared.params.Params.{Params}
use Rattle.bal_tree.specs.NamePieces.{name_pieces}
use Rattle.bal_tree.specs.TypePieces.{params_pieces}
use Rattle.bal_tree.specs.TypeRules.{name_fits, params_are_formed}
use Rattle.bal_tree.specs.ExprPieces.{expr_pieces, postfix_pieces, primary_pieces, key_pieces, member_pieces, detail_pieces}
use Rattle.bal_tree.specs.ExprRules.{ExprEnd, expr_facts, postfix_facts, level, name_begins_with_word, expr_is_formed, postfix_is_formed, primary_is_formed, key_is_formed, member_is_formed, detail_is_formed}
use Rattle.bal_tree.specs.Levels.{rank}
use Rattle.bal_tree.specs.Spells.{onto, kinds_of, first_place}
use Rattle.parse_types.specs.Nesting.{first_too_deep, enclosed}
use Rattle.parse_types.specs.Reaches.{colon_word}
use Rattle.parse_types.specs.Starts.{Reading, refusal}
use Rattle.token_steps.specs.Tokens.{Kinds, take_sign}
use Rattle.parse_expr.specs.Reaches.{Left}

-- ---- promises

-- a well-formed expression stands at the front of the tokens, and this is left behind it
abbrev pub StartsExpr : List Token → Kinds → Type 0
StartsExpr tokens rest = (e : Expr) × (expr_is_formed e false ≡ true) × (kinds_of tokens ≡ onto (expr_pieces e) rest)

-- the same of the parameters of a function, in parentheses
abbrev pub StartsParams : List Token → Kinds → Type 0
StartsParams tokens rest = (p : Params) × (params_are_formed p ≡ true) × (kinds_of tokens ≡ onto (params_pieces p) rest)

-- and of a name whose first token is a word, in the middle of a conditional expression or not
abbrev pub StartsName : Bool → List Token → Kinds → Type 0
StartsName middle tokens rest =
    (n : QualifiedName) × (name_fits middle n.prefix ≡ true) × (name_begins_with_word n.prefix ≡ true) × (kinds_of tokens ≡ onto (name_pieces n) rest)

-- no token is too deep, and it is refused at its first one, since no expression stands there
abbrev pub HasNoExpr : ℕ → List Token → Fault → Type 0
HasNoExpr file tokens fault = (first_too_deep (enclosed 0 (kinds_of tokens)) ≡ None) × ((rest : Kinds) → StartsExpr tokens rest → ⊥) × (fault ≡ refusal Syntax (first_place file tokens))

-- ---- clauses of the functions that read

abbrev pub ExprReading : Bool → Expr → ℕ → List Token → List Token → Type 0
ExprReading middle e = Reading (expr_is_formed e middle) (expr_pieces e)

abbrev pub PostfixReading : Bool → Postfix → ℕ → List Token → List Token → Type 0
PostfixReading middle e = Reading (postfix_is_formed e middle) (postfix_pieces e)

abbrev pub PrimaryReading : Bool → Primary → ℕ → List Token → List Token → Type 0
PrimaryReading middle e = Reading (primary_is_formed e middle) (primary_pieces e)

abbrev pub KeyReading : Key → ℕ → List Token → List Token → Type 0
KeyReading k = Reading (key_is_formed k false) (key_pieces k)

abbrev pub MemberReading : Member → ℕ → List Token → List Token → Type 0
MemberReading m = Reading (member_is_formed m false) (member_pieces m)

abbrev pub DetailReading : Detail → ℕ → List Token → List Token → Type 0
DetailReading d = Reading (detail_is_formed d false) (detail_pieces d)

-- its operators bind at least so tightly
abbrev pub Binds : Level → Expr → Type 0
Binds l e = rank (level e) ≤ rank l

-- a type at the end of the expression reaches as far as it can: no `?` stands behind it, nor, where it ends in `int`, a colon and
-- a word
pub record Ended (end : ExprEnd) (ks : Kinds) : Type 0 where
  pub no_question : end.in_type ≡ true → take_sign Question ks ≡ None
  pub no_name : end.in_int ≡ true → colon_word ks ≡ None

abbrev pub end_of : Expr → ExprEnd
end_of e = (expr_facts e).end

abbrev pub postfix_left : Postfix → Kinds → Left
postfix_left e ks = record { is_field = (postfix_facts e).is_field; rest = ks }
