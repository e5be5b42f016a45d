use Rattle.std.proofs.Common.{rules, refl}
use Rattle.typed_tree.proofs.StmtLayers.{stmt_layers}
use Rattle.needs_of_statements.proofs.stmts.branch.Goals as goal

pub returns : goal.returns
returns c = (c.in_ok-condition.condition, c.args.first, c.args.second, search (rules, stmt_layers), search rules, refl, refl)
