use Rattle.std.proofs.Common.{refl, rules}
use Rattle.typed_tree.proofs.StmtLayers.{stmt_layers}
use Rattle.needs_of_loops.proofs.loops.foreach_stmt.Goals as goal

pub returns : goal.returns
returns c = (c.args.body, search (rules, stmt_layers), refl)
