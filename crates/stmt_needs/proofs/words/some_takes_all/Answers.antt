use Rattle.std.proofs.Common.{sym, ◌∙◌}
use Rattle.tree_places.proofs.Gathering.{list_any-map}
use Rattle.stmt_needs.specs.StmtTable.{read_clause}
use Rattle.stmt_needs.proofs.words.some_takes_all.Goals as goal

pub returns : goal.returns
returns c = c.any_takes_all.ensures ∙ sym (list_any-map (λ r. r.takes_all) read_clause c.args.cs.now)
