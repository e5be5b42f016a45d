use Rattle.std.proofs.Common.{ℕ, List, drop}
use Rattle.package_imports.specs.Order.{Walks}
use Rattle.package_imports.proofs.order.Walk.next_new.Given as goal

-- the numbers before this place, from the first place on, were come to
abbrev pub invariant-loop-place : goal.invariant-loop-place
invariant-loop-place l =
    (graph : List (List ℕ)) (order after : List ℕ) → Walks graph l.self.come_to.items (drop l.place l.behind) order after → Walks graph l.self.come_to.items (drop l.from l.behind) order after
