use Rattle.std.proofs.Common.{ℕ, ◌<◌, map}
use Rattle.graphs.specs.Cycles.{IsOnCycle}
use Rattle.package_imports.proofs.cycles.least_cycle.Given as goal

abbrev pub invariant-loop-first : goal.invariant-loop-first
invariant-loop-first l = (i : ℕ) → i < l.first → ¬ IsOnCycle (map (λ v. v.items) l.next) i
