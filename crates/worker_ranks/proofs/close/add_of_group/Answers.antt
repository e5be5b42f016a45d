use Rattle.std.proofs.Common.{◌∙◌, ◌++◌, ap, map, sym}
use Rattle.std.proofs.lemmas.List.{append-nil}
use Rattle.worker_ranks.specs.inner.Vertices.{vertex_held}
use Rattle.worker_ranks.proofs.InTurn.{none-needed}
use Rattle.worker_ranks.proofs.close.add_of_group.Goals as goal

pub returns : goal.returns
returns c =
    sym (append-nil c.args.row.now.items)
    ∙ ap (λ l. c.args.row.now.items ++ l) (sym (none-needed (vertex_held c.args.a) c.args.worker c.args.first (map vertex_held c.args.group.now) (sym c.may_need.ensures ∙ c.if-may_need.false) c.requires))
