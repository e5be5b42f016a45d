use Rattle.std.proofs.Common.{◌≡◌, ◌∙◌, ◌+◌, ◌++◌, ap, arith, drop, length, map, rules, subst, sym}
use Rattle.worker_members.specs.Held.{kind_of}
use Rattle.worker_ranks.specs.inner.Vertices.{needs_other, passing, vertex_held}
use Rattle.worker_ranks.specs.inner.Turned.{AreGroups, AreOf, groups_held}
use Rattle.worker_ranks.proofs.Groups.{groups-next, listed-next}
use Rattle.worker_ranks.proofs.InTurn.{passing-two}
use Rattle.worker_ranks.proofs.close.add_all_needed.Goals as goal

pub add_of_group-requires : goal.add_of_group-requires
add_of_group-requires c =
    subst (λ g. AreOf c.loop-group.worker (map vertex_held g)) (sym c.deref.ensures.value)
    (groups-next c.args.groups.now c.loop-group.group-index c.group-item.result (omega arith) c.group-item.is c.loop-group.worker c.loop-group.invariant.of).0

pub loop-group-preserved : goal.loop-group-preserved
loop-group-preserved c =
    let test = needs_other (kind_of c.args.a.kind) (vertex_held c.args.a) in
    let long : c.len.result ≡ length c.group-item.result.items = search rules in
    let count = c.in_ok-after.ensures in
    record {
      of =
          subst (λ w. AreGroups w (groups_held (drop (c.loop-group.group-index + 1) c.args.groups.now))) (sym c.in_ok-next.ensures)
          (groups-next c.args.groups.now c.loop-group.group-index c.group-item.result (omega arith) c.group-item.is c.loop-group.worker c.loop-group.invariant.of).1;
      listed =
          listed-next c.args.groups.now c.loop-group.group-index c.group-item.result (omega arith) c.group-item.is (passing test) (passing-two test) c.loop-group.first c.in_ok-after.after _ _ _ (omega (arith, long, count))
          (c.in_ok-add_of_group.ensures ∙ ap (λ g. c.loop-group.row.items ++ passing test c.loop-group.first (map vertex_held g)) c.deref.ensures.value) c.loop-group.invariant.listed;
    }
