use Rattle.std.proofs.Common.{refl, rules}
use Rattle.typed_tree.proofs.StmtLayers.{stmt_layers}
use Rattle.needs_of_calls.proofs.stmts.perform_stmt.Goals as goal

pub returns : goal.returns
returns c = (c.args.operands, search (rules, stmt_layers), refl)
