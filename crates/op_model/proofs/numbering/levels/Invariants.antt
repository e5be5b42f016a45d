use Rattle.std.proofs.Common.{◌≡◌, ◌+◌}
use Rattle.op_model.specs.Levels.{distinct, levels}
use Rattle.op_model.specs.Kids.{kids_at}
use Rattle.op_model.proofs.numbering.levels.Given as goal

abbrev pub invariant-loop-level : goal.invariant-loop-level
invariant-loop-level l = l.found.items ≡ levels distinct (kids_at l.fn.kids) l.fn.roots l._level
