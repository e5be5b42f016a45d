use Rattle.std.proofs.Common.{map}
use Rattle.worker_ranks.specs.inner.Free.{KeepsFree}
use Rattle.worker_ranks.proofs.peel.Freed.sweep.Given as goal

abbrev pub invariant-loop-number : goal.invariant-loop-number
invariant-loop-number l = KeepsFree (map (λ v. v.items) l.steps) l.initial.self.marks.items l.self.marks.items
