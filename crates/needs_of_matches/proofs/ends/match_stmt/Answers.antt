use Rattle.std.proofs.Common.{refl, rules}
use Rattle.typed_tree.proofs.StmtLayers.{stmt_layers}
use Rattle.needs_of_matches.proofs.ends.match_stmt.Goals as goal

pub returns : goal.returns
returns c = (c.args.subject, c.args.clauses, search (rules, stmt_layers), refl, refl)
