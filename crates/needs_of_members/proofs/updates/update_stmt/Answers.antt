use Rattle.std.proofs.Common.{refl, rules}
use Rattle.typed_tree.proofs.StmtLayers.{stmt_layers}
use Rattle.needs_of_members.proofs.updates.update_stmt.Goals as goal

pub returns : goal.returns
returns c = (c.args.value, search (rules, stmt_layers), refl)
