use Rattle.std.proofs.Common.{◌≡◌, length, ap, ◌∙◌, arith}
use Rattle.std.specs.Iterator.Adapters.{enumerate_source}
use Rattle.std.specs.Vec.Iter.{into_iter_items, into_iter_len}
use Rattle.std.proofs.lemmas.Iterator.Adapters.{YieldsList-from_vec}
use Rattle.std.proofs.lemmas.Iterator.Consumers.{YieldsList-at, YieldsList-end, YieldsList-from_enumerate}
use Rattle.name_resolution.specs.Reached.{is_reached}
use Rattle.name_resolution.proofs.Filtering.{all-kept, one-kept}
use Rattle.name_resolution.proofs.excerpts.picked.Goals as goal

pub loop-number-preserved : goal.loop-number-preserved
loop-number-preserved c =
    one-kept (is_reached c.args.away.now) c.loop-number.yielded c.in-Some.number c.in-Some.d c.is_reached.result c.loop-number.out.items c.push_if.new.out.items c.is_reached.ensures c.loop-number.invariant c.in_ok-push_if.ensures

pub returns : goal.returns
returns c =
    let e = c.enumerate-number-items.ensures in
    let items : into_iter_items (enumerate_source c.enumerate-number-items.result) ≡ c.args.outlines.items = ap into_iter_items e.source ∙ c.into_iter.ensures.rest in
    let long : into_iter_len (enumerate_source c.enumerate-number-items.result) ≡ length c.args.outlines.items = omega (arith, ap into_iter_len e.source, c.into_iter.ensures.len, c.args.outlines.ok.0) in
    let road = YieldsList-from_enumerate (YieldsList-from_vec c.args.outlines.items items long) e.count in
    let t = YieldsList-end (YieldsList-at c.into_iter-number-iterator.ensures.into_iter_gives road) c.loop-number.yielded c.loop-number.number-iterator c.loop-number.yielded_by c.next.result c.next.new.self c.in-None.is c.next.ensures.steps in
    all-kept (is_reached c.args.away.now) c.loop-number.yielded c.args.outlines.items c.loop-number.out.items c.loop-number.invariant t.0
