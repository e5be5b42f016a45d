use Rattle.std.proofs.Common.{map}
use Rattle.worker_ranks.specs.inner.Free.{KeepsFree}
use Rattle.worker_ranks.proofs.peel.Freed.peel.Given as goal

abbrev pub invariant-loop : goal.invariant-loop
invariant-loop l = KeepsFree (map (λ v. v.items) l.steps) l.initial.self.marks.items l.self.marks.items
