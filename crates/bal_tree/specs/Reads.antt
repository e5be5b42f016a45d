-- Which tokens of the file with this number read as which tree: it is well formed, and the tokens are its own and behind them
-- the rest.
use Rattle.std.specs.Prelude.{◌≡◌, ℕ, true, false, List, []}
use Rattle.bal_base.specs.declared.token.Token.{Token}
use Rattle.bal_tree.specs.declared.types.TypeTree.{TypeTree}
use Rattle.bal_tree.specs.declared.expr.Expr.{Expr}
use Rattle.bal_tree.specs.declared.stmt.Stmt.{Stmt}
use Rattle.bal_tree.specs.declared.def.Def.{Def}
use Rattle.bal_tree.specs.declared.def.FileTree.{FileTree}
use Rattle.bal_tree.specs.TypePieces.{type_pieces}
use Rattle.bal_tree.specs.TypeRules.{type_is_formed}
use Rattle.bal_tree.specs.ExprPieces.{expr_pieces}
use Rattle.bal_tree.specs.ExprRules.{expr_is_formed}
use Rattle.bal_tree.specs.StmtPieces.{stmt_pieces}
use Rattle.bal_tree.specs.StmtRules.{stmt_is_formed}
use Rattle.bal_tree.specs.DefPieces.{def_pieces, file_pieces}
use Rattle.bal_tree.specs.DefRules.{def_is_formed, file_is_formed}
use Rattle.bal_tree.specs.Spells.{Spells}

module _ (file : ℕ) where
  abbrev pub ReadsType : List Token → TypeTree → List Token → Type 0
  ReadsType tokens t rest = (type_is_formed t false ≡ true) × Spells file (type_pieces t) tokens rest

  abbrev pub ReadsExpr : List Token → Expr → List Token → Type 0
  ReadsExpr tokens e rest = (expr_is_formed e false ≡ true) × Spells file (expr_pieces e) tokens rest

  abbrev pub ReadsStmt : List Token → Stmt → List Token → Type 0
  ReadsStmt tokens s rest = (stmt_is_formed s ≡ true) × Spells file (stmt_pieces s) tokens rest

  abbrev pub ReadsDef : List Token → Def → List Token → Type 0
  ReadsDef tokens d rest = (def_is_formed d ≡ true) × Spells file (def_pieces d) tokens rest

  -- all the tokens
  abbrev pub Reads : List Token → FileTree → Type 0
  Reads tokens f = (file_is_formed f ≡ true) × Spells file (file_pieces f) tokens []
