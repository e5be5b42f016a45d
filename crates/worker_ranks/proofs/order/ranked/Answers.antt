use Rattle.std.proofs.Common.{◌≡◌, ◌∙◌, ap, length, map, rules, subst, sym}
use Rattle.std.proofs.lemmas.List.{length-map}
use Rattle.graphs.specs.Ordering.{IsInside}
use Rattle.worker_members.specs.Held.{member_held}
use Rattle.worker_ranks.specs.inner.Turned.{AreGroups, groups_held, turned_from}
use Rattle.worker_ranks.proofs.InTurn.{groups-turned, turned, turned-inside, turned-so}
use Rattle.worker_ranks.proofs.Numbered.{long-so, numbering-so}
use Rattle.worker_ranks.proofs.Risen.{none-so}
use Rattle.worker_ranks.proofs.order.ranked.Goals as goal

pub close_graph-requires : goal.close_graph-requires
close_graph-requires c =
    let ms = map member_held c.args.workers.now in
    let held : groups_held c.deref.result.now ≡ turned_from ms 0 ms = ap groups_held c.deref.ensures.value ∙ c.in_ok-groups.ensures in
    subst (AreGroups 0) (sym held) (groups-turned ms 0 ms)

pub parts_first-requires : goal.parts_first-requires
parts_first-requires c =
    let ms = map member_held c.args.workers.now in
    let held : groups_held c.deref.result.now ≡ turned_from ms 0 ms = ap groups_held c.deref.ensures.value ∙ c.in_ok-groups.ensures in
    let same : map (λ v. v.items) c.deref-2.result.now ≡ turned ms = ap (map (λ v. v.items)) c.deref-2.ensures.value ∙ c.in_ok-next.ensures ∙ turned-so ms (groups_held c.deref.result.now) held in
    subst IsInside (sym same) (turned-inside ms)

pub returns-clause-long : goal.returns-clause-long
returns-clause-long c =
    let ms = map member_held c.args.workers.now in
    let held : groups_held c.deref.result.now ≡ turned_from ms 0 ms = ap groups_held c.deref.ensures.value ∙ c.in_ok-groups.ensures in
    let same : map (λ v. v.items) c.deref-2.result.now ≡ turned ms = ap (map (λ v. v.items)) c.deref-2.ensures.value ∙ c.in_ok-next.ensures ∙ turned-so ms (groups_held c.deref.result.now) held in
    let long : c.len.result ≡ length c.in_ok-next.next.items = search rules in
    let count : c.len.result ≡ length (map (λ v. v.items) c.deref-2.result.now) = long ∙ ap length (sym c.deref-2.ensures.value) ∙ sym (length-map c.deref-2.result.now (λ v. v.items)) in
    long-so ms (map (λ v. v.items) c.deref-2.result.now) c.len.result same count c.in_ok-order.order c.ranks_from.result c.in_ok-order.ensures.found c.ranks_from.ensures.some

pub returns-clause-numbering : goal.returns-clause-numbering
returns-clause-numbering c =
    let ms = map member_held c.args.workers.now in
    let held : groups_held c.deref.result.now ≡ turned_from ms 0 ms = ap groups_held c.deref.ensures.value ∙ c.in_ok-groups.ensures in
    let same : map (λ v. v.items) c.deref-2.result.now ≡ turned ms = ap (map (λ v. v.items)) c.deref-2.ensures.value ∙ c.in_ok-next.ensures ∙ turned-so ms (groups_held c.deref.result.now) held in
    let long : c.len.result ≡ length c.in_ok-next.next.items = search rules in
    let count : c.len.result ≡ length (map (λ v. v.items) c.deref-2.result.now) = long ∙ ap length (sym c.deref-2.ensures.value) ∙ sym (length-map c.deref-2.result.now (λ v. v.items)) in
    numbering-so ms (map (λ v. v.items) c.deref-2.result.now) c.len.result same count c.in_ok-order.order c.ranks_from.result c.in_ok-order.ensures.found c.ranks_from.ensures.some

pub returns-clause-none : goal.returns-clause-none
returns-clause-none c =
    let ms = map member_held c.args.workers.now in
    let held : groups_held c.deref.result.now ≡ turned_from ms 0 ms = ap groups_held c.deref.ensures.value ∙ c.in_ok-groups.ensures in
    let same : map (λ v. v.items) c.deref-2.result.now ≡ turned ms = ap (map (λ v. v.items)) c.deref-2.ensures.value ∙ c.in_ok-next.ensures ∙ turned-so ms (groups_held c.deref.result.now) held in
    none-so ms (map (λ v. v.items) c.deref-2.result.now) same c.in_ok-order.order c.ranks_from.result c.in_ok-order.ensures.cyclic c.ranks_from.ensures.none
