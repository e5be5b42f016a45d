use Rattle.std.proofs.Common.{◌∙◌, sym}
use Rattle.package_imports.proofs.Walking.{walk-pass}
use Rattle.package_imports.proofs.order.Walk.next_new.Goals as goal

pub loop-place-preserved : goal.loop-place-preserved
loop-place-preserved c = λ graph order after w.
    let behind = c.args.behind.now in
    let place = c.loop-place.place in
    c.loop-place.invariant graph order after (walk-pass graph c.args.self.now.come_to.items behind place order after c.loop-place-test.true (sym c.has.ensures ∙ c.if-not-has.false) w)
