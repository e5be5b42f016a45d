use Rattle.std.proofs.Common.{◌-◌}
use Rattle.plain_run.specs.Held.{heap_of}
use Rattle.plain_equality.proofs.Working.{IsWorking}
use Rattle.plain_equality.proofs.equality.are_equal.Given as goal

abbrev pub invariant-loop-next : goal.invariant-loop-next
invariant-loop-next l = IsWorking (heap_of l.heap) l.v l.w l.held.items l.next

-- a vector has at most so many elements
abbrev pub decreases-loop-next : goal.decreases-loop-next
decreases-loop-next l = 9223372036854775808 - l.next
