use Rattle.std.proofs.Common.{◌≡◌, ◌++◌}
use Rattle.package_imports.specs.Order.{others}
use Rattle.package_imports.proofs.order.Walk.close.Given as goal

abbrev pub invariant-loop-number : goal.invariant-loop-number
invariant-loop-number l =
    (l.self.left.items ≡ l.initial.self.left.items ++ others l.number l.initial.self.come_to.items) × (l.self.come_to.items ≡ l.initial.self.come_to.items)
