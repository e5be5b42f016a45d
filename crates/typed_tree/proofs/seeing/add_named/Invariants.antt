use Rattle.std.proofs.Common.{◌≡◌, ◌++◌, drop}
use Rattle.typed_tree.specs.Skeleton.{events_from}
use Rattle.typed_tree.proofs.seeing.add_named.Given as goal

abbrev pub invariant-loop-w : goal.invariant-loop-w
invariant-loop-w l =
    l.events.items ++ events_from l.workers l.own (drop l.w-index l.workers) ≡ l.initial.events.items ++ events_from l.workers 1 l.workers
