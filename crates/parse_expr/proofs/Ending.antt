-- How expressions end and begin, as the code meets it.
use Rattle.std.proofs.Common.{◌≡◌, ℕ, Bool, true, false, ◌&&◌, List, ◌∷◌, Option, None, Some, refl, sym, ap, ◌∙◌, subst, arith}
use Rattle.std.specs.Prelude.{option_map, is_some}
use Rattle.bal_base.specs.declared.token.Token.{Token}
use Rattle.bal_base.specs.declared.token.TokenKind.TheVariants.{Sign as SignKind}
use Rattle.bal_base.specs.declared.token.Keyword.TheVariants.{Trap}
use Rattle.bal_base.specs.declared.token.Sign.TheVariants.{Colon}
use Rattle.bal_tree.specs.declared.expr.Expr.{Expr}
use Rattle.bal_tree.specs.ExprPieces.{expr_pieces}
use Rattle.bal_tree.specs.ExprRules.{expr_facts}
use Rattle.bal_tree.specs.Spells.{Heads, Spells, onto, kinds_of}
use Rattle.bal_tree.proofs.Spelling.{spells-onto}
use Rattle.parse_types.specs.Reaches.{colon_word}
use Rattle.token_steps.specs.Tokens.{Kinds, take_word, take_key}
use Rattle.parse_types.proofs.Readings.{heads-kinds}
use Rattle.parse_expr.specs.Reaches.{take_function, trap_or, function_or, level, loosest, up_to}
use Rattle.parse_expr.proofs.Law.{up_to-level}
use Rattle.parse_expr.proofs.WholeLaw.{expr-begins}

pub some-map : {A B : Type 0} (f : A → B) (o : Option A) → is_some (option_map f o) ≡ is_some o
some-map f None = refl
some-map f (Some a) = refl

-- an expression before `?` does not end in a type
pub no-type-end : (b : Bool) (o : Option Kinds) → is_some o ≡ true → (b ≡ true → o ≡ None) → b ≡ false
no-type-end false o some h = refl
no-type-end true o some h = let bad : false ≡ true = ap is_some (sym (h refl)) ∙ some in cc bad

not-both : (a b : Bool) → (a ≡ true → b ≡ false) → (a && b) ≡ false
not-both true b h = h refl
not-both false b h = refl

-- no word stands behind the colon that follows `int`
pub no-name-behind : (file : ℕ) (in_int : Bool) (e : Expr) (a b c : List Token) → (in_int ≡ true → colon_word (kinds_of a) ≡ None) → Heads (SignKind Colon) a b → Spells file (expr_pieces e) b c → (in_int && (expr_facts e).begins_with_word) ≡ false
no-name-behind file in_int e a b c h colon spells =
    not-both in_int (expr_facts e).begins_with_word
    (λ i.
    let none : take_word (kinds_of b) ≡ None = subst (λ ks. colon_word ks ≡ None) (heads-kinds (SignKind Colon) a b colon) (h i) in
    sym (expr-begins e (kinds_of c)) ∙ ap (λ ks. is_some (take_word ks)) (sym (spells-onto file (expr_pieces e) b c spells)) ∙ ap is_some none)

-- neither `trap` nor an anonymous function
pub loosest-level : (inner : ℕ → Bool → Kinds → Option Kinds) (middle : Bool) (ks : Kinds) → is_some (take_key Trap ks) ≡ false → is_some (take_function ks) ≡ false → loosest inner middle ks ≡ up_to inner middle 9 ks
loosest-level inner middle ks no_trap no_function =
    ap (λ b. trap_or inner middle b ks) no_trap ∙ ap (λ b. function_or inner middle b ks) no_function ∙ sym (up_to-level inner middle 9 ks (omega arith) (omega arith))
