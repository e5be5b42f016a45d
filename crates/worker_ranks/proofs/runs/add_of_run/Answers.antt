use Rattle.std.proofs.Common.{◌∙◌, ◌++◌, ap, arith, sym}
use Rattle.std.proofs.lemmas.List.{append-nil}
use Rattle.worker_ranks.specs.inner.Vertices.{is_edge_by, passing, vertex_held}
use Rattle.worker_ranks.proofs.Neighbours.{none-there, run-of}
use Rattle.worker_ranks.proofs.runs.add_of_run.Goals as goal

pub add_of_worker-requires : goal.add_of_worker-requires
add_of_worker-requires c = run-of c.args.run.now c.in-Some.b.now c.in-Some.ensures.lookup.3.0 c.in-Some.ensures.lookup.1 c.requires

pub returns-in-None : goal.returns-in-None
returns-in-None c =
    let few = c.in-None.ensures.lookup.3 in
    sym (append-nil c.args.row.now.items)
    ∙ ap (λ g. c.args.row.now.items ++ passing (is_edge_by c.args.edges (vertex_held c.args.a)) c.args.first g) (sym (none-there c.args.run.now (omega (arith, few))))
