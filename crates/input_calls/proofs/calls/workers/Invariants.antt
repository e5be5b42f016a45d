use Rattle.std.proofs.Common.{◌≡◌, map, take}
use Rattle.typed_tree.specs.Listed.{run, joined}
use Rattle.input_calls.specs.Calls.{asked, worker_calls}
use Rattle.input_calls.proofs.calls.workers.Given as goal

abbrev pub invariant-loop-w : goal.invariant-loop-w
invariant-loop-w l = l.found ≡ run asked (joined (map worker_calls (take l.w-index l.workers))) l.before
