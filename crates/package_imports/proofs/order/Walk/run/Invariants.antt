use Rattle.std.proofs.Common.{◌≤◌, ◌+◌, ◌*◌, ℕ, List, length, map, reverse}
use Rattle.graphs.specs.Ordering.{IsInside}
use Rattle.package_imports.specs.inner.Walking.{Resumes, to_go}
use Rattle.package_imports.proofs.order.Walk.run.Given as goal

-- what the walk comes to now it came to when it began, and each round makes what is to go less by one
abbrev pub invariant-loop : goal.invariant-loop
invariant-loop l =
    let graph = map (λ v. v.items) l.next in
    IsInside graph → to_go graph l.initial.self.come_to.items l.initial.self.steps.items ≤ 2 * length l.next
    → ((order after : List ℕ) → Resumes graph l.self.come_to.items (reverse l.self.steps.items) l.self.left.items order after → Resumes graph l.initial.self.come_to.items (reverse l.initial.self.steps.items) l.initial.self.left.items order after)
    × (to_go graph l.self.come_to.items l.self.steps.items + l.counter ≤ 2 * length l.next)
