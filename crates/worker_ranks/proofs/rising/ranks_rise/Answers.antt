use Rattle.std.proofs.Common.{◌≡◌, ◌∙◌, ap, map, subst, sym}
use Rattle.worker_members.specs.Held.{member_held}
use Rattle.worker_ranks.specs.inner.Turned.{AreGroups, groups_held, turned_from}
use Rattle.worker_ranks.proofs.InTurn.{groups-turned, turned, turned-so}
use Rattle.worker_ranks.proofs.Risen.{rises-if}
use Rattle.worker_ranks.proofs.rising.ranks_rise.Goals as goal

pub close_graph-requires : goal.close_graph-requires
close_graph-requires c =
    let ms = map member_held c.args.workers.now in
    let held : groups_held c.deref.result.now ≡ turned_from ms 0 ms = ap groups_held c.deref.ensures.value ∙ c.in_ok-groups.ensures in
    subst (AreGroups 0) (sym held) (groups-turned ms 0 ms)

pub returns : goal.returns
returns c =
    let ms = map member_held c.args.workers.now in
    let held : groups_held c.deref.result.now ≡ turned_from ms 0 ms = ap groups_held c.deref.ensures.value ∙ c.in_ok-groups.ensures in
    let same : map (λ v. v.items) c.deref-2.result.now ≡ turned ms = ap (map (λ v. v.items)) c.deref-2.ensures.value ∙ c.in_ok-next.ensures ∙ turned-so ms (groups_held c.deref.result.now) held in
    rises-if ms (map (λ v. v.items) c.deref-2.result.now) c.args.ranks.now c.all_fall.result same c.all_fall.ensures
