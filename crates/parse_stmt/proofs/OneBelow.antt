-- What the law of one chosen tree takes from types and expressions: their tokens tell them.
use Rattle.std.proofs.Common.{◌≡◌, true, false}
use Rattle.bal_tree.specs.declared.expr.Expr.{Expr}
use Rattle.bal_tree.specs.declared.types.TypeTree.{TypeTree}
use Rattle.bal_tree.specs.ExprPieces.{expr_pieces}
use Rattle.bal_tree.specs.ExprRules.{expr_is_formed}
use Rattle.bal_tree.specs.Pieces.{kinds}
use Rattle.bal_tree.specs.TypePieces.{type_pieces}
use Rattle.bal_tree.specs.TypeRules.{type_is_formed}
use Rattle.parse_stmt.proofs.Alike.{Alike}

pub record OneBelow : Type 0 where
  pub types : (t u : TypeTree) → type_is_formed t false ≡ true → type_is_formed u false ≡ true → kinds (type_pieces t) ≡ kinds (type_pieces u) → Alike (type_pieces t) (type_pieces u)
  pub exprs : (e f : Expr) → expr_is_formed e false ≡ true → expr_is_formed f false ≡ true → kinds (expr_pieces e) ≡ kinds (expr_pieces f) → Alike (expr_pieces e) (expr_pieces f)
