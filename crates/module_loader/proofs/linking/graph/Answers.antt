use Rattle.std.proofs.Common.{◌∙◌, ap, map}
use Rattle.package_making.specs.Making.{numbered}
use Rattle.module_loader.proofs.Graphing.{graph-more}
use Rattle.module_loader.proofs.Lists.{map-push}
use Rattle.module_loader.proofs.linking.graph.Goals as goal

pub loop-number-preserved : goal.loop-number-preserved
loop-number-preserved c =
    let next = c.loop-number.next.items in
    ap (map (λ v. v.items)) c.in_ok-push.ensures.items
    ∙ (map-push (λ v. v.items) next c.in_ok-all.all
    ∙ graph-more c.args.home.now (numbered c.args.numbers.now 0 c.args.read.now) c.loop-number.number (map (λ v. v.items) next) c.in_ok-all.all.items c.loop-number.invariant c.in_ok-all.ensures)
