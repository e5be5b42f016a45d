use Rattle.std.specs.Prelude.{◌≡◌, ◌+◌, take}
use Rattle.std.specs.List.{sum_by}
use Rattle.plain_run.proofs.structures.all_cells.Given as goal

abbrev pub invariant-loop-s : goal.invariant-loop-s
invariant-loop-s l = l.all ≡ l.fn.cells + sum_by (λ s. s.greatest + 1) (take l.s-index l.fn.structures)
