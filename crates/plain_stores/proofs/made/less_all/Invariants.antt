use Rattle.std.specs.Prelude.{◌+◌, ℕ, take}
use Rattle.std.specs.List.{sum_by}
use Rattle.plain_run.specs.Came.{IsLeft}
use Rattle.plain_stores.specs.Changes.{filler_cells}
use Rattle.plain_stores.proofs.made.less_all.Given as goal

abbrev pub invariant-loop-f : goal.invariant-loop-f
invariant-loop-f l =
    (room taken : ℕ) → IsLeft room taken l.fn.start → IsLeft room (taken + sum_by (filler_cells l.fn.facts) (take l.f-index l.fn.fillers)) l.left
