use Rattle.std.proofs.Common.{◌≡◌, [], map}
use Rattle.graphs.specs.inner.Walks.{IsWalked}
use Rattle.graphs.proofs.order.parts_first.Given as goal

abbrev pub invariant-loop-number : goal.invariant-loop-number
invariant-loop-number l = IsWalked (map (λ v. v.items) l.next) l.number l.walk × (l.walk.steps.items ≡ [])
