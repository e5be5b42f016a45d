use Rattle.std.proofs.Common.{◌≡◌, ◌∙◌, ◌++◌, ap, arith, length, map, rules}
use Rattle.worker_ranks.specs.inner.Vertices.{vertex_held}
use Rattle.worker_ranks.specs.inner.Turned.{close_rows, groups_held, laid}
use Rattle.worker_ranks.proofs.Groups.{listed-next}
use Rattle.worker_ranks.proofs.InTurn.{rows-two}
use Rattle.worker_ranks.proofs.close.close_graph.Goals as goal

pub loop-group-preserved : goal.loop-group-preserved
loop-group-preserved c =
    let vs = laid (groups_held c.args.groups.now) in
    let long : c.len.result ≡ length c.group-item.result.items = search rules in
    let count = c.in_ok-after.ensures in
    listed-next c.args.groups.now c.loop-group.group-index c.group-item.result (omega arith) c.group-item.is (close_rows vs) (rows-two vs) c.loop-group.first c.in_ok-after.after _ _ _ (omega (arith, long, count))
    (c.in_ok-add_rows.ensures ∙ ap (λ g. map (λ v. v.items) c.loop-group.graph.items ++ close_rows vs c.loop-group.first (map vertex_held g)) c.deref.ensures.value) c.loop-group.invariant
