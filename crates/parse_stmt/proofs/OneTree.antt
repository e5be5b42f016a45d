-- A text has one chosen tree.
use Rattle.std.proofs.Common.{ℕ, List}
use Rattle.bal_base.specs.declared.token.Token.{Token}
use Rattle.bal_tree.specs.declared.def.FileTree.{FileTree}
use Rattle.bal_tree.specs.Reads.{Reads}
use Rattle.parse_stmt.specs.Chosen.{IsChosen, IsSameFile}
use Rattle.parse_stmt.proofs.ExprOne.{exprs-one}
use Rattle.parse_stmt.proofs.FileTree.{one-tree}
use Rattle.parse_stmt.proofs.KnownAll.{known}
use Rattle.parse_stmt.proofs.TypeForms.{types-one}

pub chosen-one : (file : ℕ) (tokens : List Token) (t u : FileTree) → Reads file tokens t → Reads file tokens u → IsChosen t → IsChosen u → IsSameFile t u
chosen-one = one-tree known record { types = types-one; exprs = exprs-one }
