use Rattle.std.proofs.Common.{rules, refl}
use Rattle.typed_tree.proofs.StmtLayers.{stmt_layers}
use Rattle.needs_of_statements.proofs.stmts.block_stmt.Goals as goal

pub returns : goal.returns
returns c = (c.args.stmts, search (rules, stmt_layers), refl)
