use Rattle.std.proofs.Common.{◌≡◌, true, rules, subst}
use Rattle.plain_run.specs.Held.{heap_of}
use Rattle.plain_equality.specs.Pairs.{IsHeld}
use Rattle.plain_equality.proofs.Holding.{held-all, held-more}
use Rattle.plain_equality.proofs.held.hold_all.Goals as goal

pub loop-p-preserved : goal.loop-p-preserved
loop-p-preserved c =
    let h = heap_of c.args.heap.now in
    let p = c.p-item.result in
    let yes : c.in_ok-hold.field-0 ≡ true = search rules in
    held-more h c.args.pairs.now c.args.held.now.items c.loop-p.p-index p c.loop-p-test.true c.p-item.is c.loop-p.held.items c.hold.new.held.items c.loop-p.invariant
    (subst (IsHeld h p.0 p.1 c.loop-p.held.items c.hold.new.held.items) yes c.in_ok-hold.ensures)

pub returns : goal.returns
returns c = held-all (heap_of c.args.heap.now) c.args.pairs.now c.args.held.now.items c.loop-p.p-index c.loop-p.held.items c.loop-p-test.false c.loop-p.invariant
