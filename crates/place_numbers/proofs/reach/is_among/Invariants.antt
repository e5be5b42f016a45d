use Rattle.std.proofs.Common.{◌≢◌}
use Rattle.needs_of_commands.proofs.Descent.{size}
use Rattle.place_numbers.proofs.Walking.{Walked}
use Rattle.place_numbers.proofs.reach.is_among.Given as goal

abbrev pub invariant-loop-next : goal.invariant-loop-next
invariant-loop-next l = Walked l.first l.rows (λ t. t ≢ l.trap) l.fn.innermost l.next

abbrev pub decreases-loop-next : goal.decreases-loop-next
decreases-loop-next l = size l.first l.rows l.next
