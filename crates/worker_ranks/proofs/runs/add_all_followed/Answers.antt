use Rattle.std.proofs.Common.{◌≡◌, ◌∙◌, ◌++◌, ap, arith, length, map, rules, subst, sym}
use Rattle.worker_ranks.specs.inner.SideBySide.{IsRun}
use Rattle.worker_ranks.specs.inner.Vertices.{is_edge_by, passing, vertex_held}
use Rattle.worker_ranks.proofs.Groups.{listed-next}
use Rattle.worker_ranks.proofs.InTurn.{passing-two}
use Rattle.worker_ranks.proofs.Neighbours.{next-run}
use Rattle.worker_ranks.proofs.runs.add_all_followed.Goals as goal

pub add_of_run-requires : goal.add_of_run-requires
add_of_run-requires c =
    subst (λ g. IsRun (map vertex_held g)) (sym c.deref.ensures.value)
    (next-run c.args.runs.now c.loop-run.run-index c.run-item.result (omega arith) c.run-item.is c.loop-run.invariant.runs).0

pub loop-run-preserved : goal.loop-run-preserved
loop-run-preserved c =
    let test = is_edge_by c.args.edges (vertex_held c.args.a) in
    let long : c.len.result ≡ length c.run-item.result.items = search rules in
    let count = c.in_ok-after.ensures in
    record {
      runs = (next-run c.args.runs.now c.loop-run.run-index c.run-item.result (omega arith) c.run-item.is c.loop-run.invariant.runs).1;
      listed =
          listed-next c.args.runs.now c.loop-run.run-index c.run-item.result (omega arith) c.run-item.is (passing test) (passing-two test) c.loop-run.first c.in_ok-after.after _ _ _ (omega (arith, long, count))
          (c.in_ok-add_of_run.ensures ∙ ap (λ g. c.loop-run.row.items ++ passing test c.loop-run.first (map vertex_held g)) c.deref.ensures.value) c.loop-run.invariant.listed;
    }
