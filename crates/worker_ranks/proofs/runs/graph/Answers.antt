use Rattle.std.proofs.Common.{◌∙◌, ◌+◌, ◌++◌, ℕ, List, ap, arith, length, map, refl}
use Rattle.worker_ranks.specs.inner.Turned.{groups_held, laid}
use Rattle.worker_ranks.specs.inner.Vertices.{Vertex, is_edge_by, passing, vertex_held}
use Rattle.worker_ranks.proofs.Groups.{listed-next}
use Rattle.worker_ranks.proofs.Neighbours.{rows-of-two, rows_of}
use Rattle.worker_ranks.proofs.runs.graph.Goals as goal

pub loop-run-preserved : goal.loop-run-preserved
loop-run-preserved c =
    let vs = laid (groups_held c.args.runs.now) in
    let row : Vertex → List ℕ = λ a. passing (is_edge_by c.args.edges a) 0 vs in
    listed-next c.args.runs.now c.loop-run.run-index c.run-item.result (omega arith) c.run-item.is (rows_of row) (rows-of-two row) 0 (0 + length c.run-item.result.items) _ _ _ refl
    (c.in_ok-add_rows.ensures ∙ ap (λ g. map (λ v. v.items) c.loop-run.graph.items ++ map row (map vertex_held g)) c.deref.ensures.value) c.loop-run.invariant
