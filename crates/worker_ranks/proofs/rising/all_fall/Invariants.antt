use Rattle.std.proofs.Common.{◌≡◌, drop, map}
use Rattle.worker_ranks.specs.inner.Vertices.{falls_from}
use Rattle.worker_ranks.proofs.rising.all_fall.Given as goal

abbrev pub invariant-loop-followed : goal.invariant-loop-followed
invariant-loop-followed l =
    record {
      place : l.number ≡ l.followed-index;
      same : falls_from l.ranks l.number (map (λ v. v.items) (drop l.followed-index l.next)) ≡ falls_from l.ranks 0 (map (λ v. v.items) l.next);
    }
