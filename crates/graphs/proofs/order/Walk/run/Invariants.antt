use Rattle.std.proofs.Common.{◌≤◌, ◌+◌, ◌*◌, ℕ, length, map}
use Rattle.graphs.specs.inner.Walks.{IsWalked, left}
use Rattle.graphs.proofs.order.Walk.run.Given as goal

-- each round makes what is left less by one
abbrev pub invariant-loop : goal.invariant-loop
invariant-loop l =
    (passed : ℕ) → IsWalked (map (λ v. v.items) l.next) passed l.initial.self → IsWalked (map (λ v. v.items) l.next) passed l.self × (left l.self.marks.items + l.counter ≤ 2 * length l.initial.self.marks.items)
