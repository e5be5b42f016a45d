use Rattle.std.proofs.Common.{◌≡◌, drop}
use Rattle.typed_tree.specs.Skeleton.{number_from}
use Rattle.typed_tree.proofs.seeing.names.worker.Given as goal

abbrev pub invariant-loop-w : goal.invariant-loop-w
invariant-loop-w l = number_from l.number (drop l.w-index l.workers) l.name ≡ number_from 1 l.workers l.name
