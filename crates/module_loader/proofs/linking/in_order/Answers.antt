use Rattle.std.proofs.Common.{◌≡◌, ◌∙◌, ◌<◌, arith, ap, length, subst, sym}
use Rattle.std.proofs.lemmas.Result.{IfOk-weaker}
use Rattle.graphs.specs.Ordering.{IsInside}
use Rattle.package_making.specs.Making.{numbered}
use Rattle.module_loader.specs.Packages.{graph_from}
use Rattle.module_loader.specs.inner.Linked.{IsOrdering}
use Rattle.module_loader.proofs.Graphing.{graph-inside, graph-long}
use Rattle.module_loader.proofs.Lists.{map-long}
use Rattle.module_loader.proofs.linking.in_order.Goals as goal

pub ordered-requires-clause-inside : goal.ordered-requires-clause-inside
ordered-requires-clause-inside c =
    let count : c.len.result ≡ length c.args.names.items = omega (arith, c.len.ensures, c.args.names.ok.0) in
    let files = numbered c.as_slice.result.now 0 c.args.read.now in
    let home = c.args.home.now in
    subst IsInside (sym c.in_ok-next.ensures) (graph-inside home files c.len.result (subst (λ n. length home.paths < n) (sym count) c.requires))

pub ordered-requires-clause-count : goal.ordered-requires-clause-count
ordered-requires-clause-count c =
    let count : c.len.result ≡ length c.args.names.items = omega (arith, c.len.ensures, c.args.names.ok.0) in
    let long = ap length c.in_ok-next.ensures ∙ graph-long c.args.home.now (numbered c.as_slice.result.now 0 c.args.read.now) 0 c.len.result in
    sym (map-long (λ v. v.items) c.in_ok-next.next.items) ∙ (long ∙ count)

pub ordered-requires-clause-some : goal.ordered-requires-clause-some
ordered-requires-clause-some c =
    let count : c.len.result ≡ length c.args.names.items = omega (arith, c.len.ensures, c.args.names.ok.0) in
    let long = ap length c.in_ok-next.ensures ∙ graph-long c.args.home.now (numbered c.as_slice.result.now 0 c.args.read.now) 0 c.len.result in
    let same = map-long (λ v. v.items) c.in_ok-next.next.items in
    omega (arith, long, same, count, c.requires)

pub returns : goal.returns
returns c =
    let count : c.len.result ≡ length c.args.names.items = omega (arith, c.len.ensures, c.args.names.ok.0) in
    let home = c.args.home.now in
    let read = c.args.read.now in
    let graph = c.in_ok-next.ensures ∙ (λ i. graph_from home (numbered (c.as_slice.ensures.value i) 0 read) 0 (count i)) in
    IfOk-weaker c.ordered.result _ _ (λ link h. subst (λ g. IsOrdering c.args.names.items c.args.numbers.items g link) graph h) c.ordered.ensures
