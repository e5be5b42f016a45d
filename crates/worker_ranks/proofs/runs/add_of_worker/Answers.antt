use Rattle.std.proofs.Common.{◌∙◌, ◌++◌, ap, map, sym}
use Rattle.std.proofs.lemmas.List.{append-nil}
use Rattle.worker_ranks.specs.inner.Vertices.{vertex_held}
use Rattle.worker_ranks.proofs.Neighbours.{none-followed}
use Rattle.worker_ranks.proofs.runs.add_of_worker.Goals as goal

pub returns : goal.returns
returns c =
    sym (append-nil c.args.row.now.items)
    ∙ ap (λ l. c.args.row.now.items ++ l) (sym (none-followed c.args.edges (vertex_held c.args.a) c.args.worker c.args.first (map vertex_held c.args.run.now) (sym c.may_lead.ensures ∙ c.if-may_lead.false) c.requires))
