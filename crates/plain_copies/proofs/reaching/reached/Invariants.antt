use Rattle.std.proofs.Common.{◌≡◌}
use Rattle.op_model.specs.Copies.{mutable_members}
use Rattle.op_model.specs.Levels.{distinct, levels}
use Rattle.plain_run.specs.Held.{heap_of}
use Rattle.plain_copies.proofs.reaching.reached.Given as goal

abbrev pub invariant-loop-level : goal.invariant-loop-level
invariant-loop-level l = l.found.items ≡ levels distinct (mutable_members (heap_of l.fn.heap)) l.fn.roots l._level
