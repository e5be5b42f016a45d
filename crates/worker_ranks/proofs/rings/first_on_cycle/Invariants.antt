use Rattle.std.proofs.Common.{◌<◌, ℕ, map}
use Rattle.graphs.specs.Cycles.{IsOnCycle}
use Rattle.worker_ranks.specs.inner.Free.{AreFree}
use Rattle.worker_ranks.proofs.rings.first_on_cycle.Given as goal

abbrev pub invariant-loop-first : goal.invariant-loop-first
invariant-loop-first l =
    record {
      free : AreFree (map (λ v. v.items) l.next) l.freed.marks.items;
      none : (i : ℕ) → i < l.first → ¬ IsOnCycle (map (λ v. v.items) l.next) i;
    }
