use Rattle.std.proofs.Common.{◌<◌, arith, take, get_or, length, map, [], subst, sym}
use Rattle.std.specs.List.{Contains}
use Rattle.std.proofs.lemmas.List.{get_or_default}
use Rattle.graphs.specs.inner.Searching.{AreNoted, IsBefore}
use Rattle.graphs.proofs.Noting.{before-from, before-to, none-before, nothing-noted, noted-more}
use Rattle.graphs.proofs.search.one_level.Goals as goal

pub loop-number-init : goal.loop-number-init
loop-number-init c =
    let lists = map (λ v. v.items) c.args.back.now in
    subst (AreNoted (IsBefore lists []) c.args.level c.args.away.now.items [] c.args.away.now.items) (sym c.new-found.ensures.items)
    (nothing-noted (IsBefore lists) c.args.level c.args.away.now.items [] (none-before lists))

pub loop-number-preserved : goal.loop-number-preserved
loop-number-preserved c =
    let i = c.loop-number.number-index in
    let lt : i < length c.args.edge.now = grind (arith, c.loop-number-test.true) in
    let x = get_or c.args.edge.now i 0 in
    let lists = map (λ v. v.items) c.args.back.now in
    noted-more (IsBefore lists) (Contains (get_or lists x [])) c.args.level c.args.edge.now i x c.args.away.now.items c.loop-number.away.items c.reach.new.away.items [] c.loop-number.found.items c.reach.new.found.items
    lt (get_or_default c.args.edge.now i 0 x lt) (before-from lists (take i c.args.edge.now) x) (before-to lists (take i c.args.edge.now) x) c.loop-number.invariant (subst (λ list. AreNoted (Contains list) c.args.level c.loop-number.away.items c.loop-number.found.items c.reach.new.away.items c.reach.new.found.items) c.preceding.ensures c.in_ok-reach.ensures)
