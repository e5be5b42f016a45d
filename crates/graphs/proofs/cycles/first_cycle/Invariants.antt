use Rattle.std.proofs.Common.{◌≡◌, ◌+◌, ℕ, map}
use Rattle.graphs.proofs.Greedy.{Greedy}
use Rattle.graphs.proofs.cycles.first_cycle.Given as goal

abbrev pub invariant-loop : goal.invariant-loop
invariant-loop l = (d : ℕ) → d + l.counter ≡ l.end → Greedy (map (λ v. v.items) l.next) l.away.items l.first l.others.items l.number d
