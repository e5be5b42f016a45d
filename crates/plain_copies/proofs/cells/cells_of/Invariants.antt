use Rattle.std.specs.Prelude.{◌+◌, take}
use Rattle.std.specs.List.{sum_by}
use Rattle.plain_copies.specs.Copied.{IsSum}
use Rattle.plain_copies.proofs.cells.cells_of.Given as goal

abbrev pub invariant-loop-s : goal.invariant-loop-s
invariant-loop-s l = IsSum (sum_by (λ s. s.greatest + 1) (take l.s-index l.structures)) l.sum
