use Rattle.std.proofs.Common.{◌≡◌, ◌∙◌, ap, arith, ◌++◌}
use Rattle.package_imports.specs.Order.{others}
use Rattle.package_imports.proofs.Others.{closed-more}
use Rattle.package_imports.proofs.order.Walk.close.Goals as goal

pub loop-number-preserved : goal.loop-number-preserved
loop-number-preserved c =
    let first = c.args.self.now in
    let walk = c.loop-number.self in
    let before = c.loop-number.invariant in (
      closed-more first.left.items walk.left.items c.leave_new.new.self.left.items first.come_to.items walk.come_to.items c.loop-number.number before.0 before.1 c.in_ok-leave_new.ensures.left,
      ap (λ v. v.items) c.leave_new.ensures.come_to ∙ before.1,
    )

pub returns : goal.returns
returns c =
    let first = c.args.self.now in
    let same : c.loop-number.number ≡ c.args.count = omega arith in
    c.loop-number.invariant.0 ∙ ap (λ n. first.left.items ++ others n first.come_to.items) same
