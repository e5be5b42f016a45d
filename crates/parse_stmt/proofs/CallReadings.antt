-- A call behind a word, as an expression.
use Rattle.std.proofs.Common.{rules, ◌≡◌, ◌&&◌, true, false, refl, sym, ap, ◌∙◌, subst}
use Rattle.std.specs.Global.{Box}
use Rattle.bal_base.specs.declared.place.Place.{Place}
use Rattle.bal_tree.specs.declared.expr.Expr.{Expr}
use Rattle.bal_tree.specs.declared.expr.Expr.TheVariants.{Prefix}
use Rattle.bal_tree.specs.declared.expr.PrefixOp.{PrefixOp}
use Rattle.bal_tree.specs.declared.level.Level.TheVariants.{Postfix as PostfixLevel, Prefix as PrefixLevel}
use Rattle.bal_tree.specs.ExprPieces.{expr_pieces, prefix_op}
use Rattle.bal_tree.specs.ExprRules.{expr_facts, expr_is_formed}
use Rattle.bal_tree.specs.Levels.{is_no_looser}
use Rattle.bal_tree.specs.Pieces.{starts, ◌&◌}
use Rattle.bal_tree.proofs.ExprLayers.{expr_layers}

prefix-pieces : (op : PrefixOp) (operand : Box Expr) (at : Place) → expr_pieces (Prefix op operand at) ≡ (starts at & prefix_op op & expr_pieces operand.value)
prefix-pieces op operand at = search (rules, expr_layers)

prefix-formed : (op : PrefixOp) (operand : Box Expr) (at : Place) → expr_is_formed (Prefix op operand at) false ≡ (is_no_looser (expr_facts operand.value).level PrefixLevel && (expr_is_formed operand.value false && true))
prefix-formed op operand at = search (rules, expr_layers)

module _ (op : PrefixOp) (operand : Box Expr) (at : Place) (e : Expr) (same : operand.value ≡ e) where
  pub prefixed-pieces : expr_pieces (Prefix op operand at) ≡ (starts at & prefix_op op & expr_pieces e)
  prefixed-pieces = prefix-pieces op operand at ∙ ap (λ x. starts at & prefix_op op & expr_pieces x) same

  pub prefixed-formed : (expr_facts e).level ≡ PostfixLevel → expr_is_formed e false ≡ true → expr_is_formed (Prefix op operand at) false ≡ true
  unfolding is_no_looser
  prefixed-formed level formed =
      prefix-formed op operand at ∙ ap (λ x. is_no_looser (expr_facts x).level PrefixLevel && (expr_is_formed x false && true)) same
      ∙ ap (λ l. is_no_looser l PrefixLevel && (expr_is_formed e false && true)) level ∙ ap (λ b. b && true) formed
