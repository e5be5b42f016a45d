use Rattle.std.proofs.Common.{rules, refl}
use Rattle.typed_tree.proofs.StmtLayers.{stmt_layers}
use Rattle.needs_of_assignments.proofs.stmts.perform.Goals as goal

pub returns : goal.returns
returns c = (c.args.operands, search (rules, stmt_layers), refl)
