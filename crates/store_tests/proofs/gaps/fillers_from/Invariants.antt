use Rattle.std.specs.Prelude.{◌≡◌, ◌-◌, ◌≤◌}
use Rattle.op_model.specs.Fillers.{fillers_from}
use Rattle.store_tests.proofs.gaps.fillers_from.Given as goal

abbrev pub invariant-loop-place : goal.invariant-loop-place
invariant-loop-place l =
    (l.place - l.fn.first ≤ l.fn.end - l.fn.first) × (l.all.items ≡ fillers_from l.fn.fillers l.fn.first (l.place - l.fn.first))
