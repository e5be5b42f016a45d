use Rattle.std.specs.Prelude.{◌≡◌, ◌++◌, ◌-◌, Some}
use Rattle.std.specs.List.{sum_by}
use Rattle.op_model.specs.Levels.{all_of, levels}
use Rattle.op_model.specs.Limits.{most_cells}
use Rattle.plain_run.specs.Came.{IsLeft}
use Rattle.plain_stores.specs.Changes.{filler_cells, kids}
use Rattle.plain_stores.proofs.made.made_for.Given as goal

abbrev pub invariant-loop-level : goal.invariant-loop-level
invariant-loop-level l =
    (l.made.items ++ levels all_of (kids l.fn.facts) l.level.items (l.fn.depth - l._level) ≡ levels all_of (kids l.fn.facts) l.fn.roots.items l.fn.depth)
    × IsLeft most_cells (sum_by (filler_cells l.fn.facts) l.made.items) (Some l.room)
