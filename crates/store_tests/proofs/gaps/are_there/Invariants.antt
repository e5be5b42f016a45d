use Rattle.std.specs.Prelude.{◌≡◌, ◌-◌, ◌≤◌, true}
use Rattle.std.specs.List.{list_all}
use Rattle.op_model.specs.Fillers.{fillers_from}
use Rattle.store_tests.specs.Fillers.{is_there}
use Rattle.store_tests.proofs.gaps.are_there.Given as goal

abbrev pub invariant-loop-place : goal.invariant-loop-place
invariant-loop-place l =
    (l.place - l.fn.first ≤ l.fn.end - l.fn.first) × (list_all is_there (fillers_from l.fn.fillers l.fn.first (l.place - l.fn.first)) ≡ true)
