use Rattle.std.proofs.Common.{◌≤◌, length}
use Rattle.stack_code.specs.Places.{stack_at}
use Rattle.needs_of_commands.proofs.Descent.{size}
use Rattle.place_numbers.proofs.Walking.{Walked}
use Rattle.place_numbers.proofs.reach.keep_at_most.Given as goal

abbrev pub invariant-loop-next : goal.invariant-loop-next
invariant-loop-next l = Walked l.first l.rows (λ t. length (stack_at l.code t) ≤ l.most) l.fn.innermost l.next

abbrev pub decreases-loop-next : goal.decreases-loop-next
decreases-loop-next l = size l.first l.rows l.next
