use Rattle.needs_of_commands.proofs.Descent.{Goes, size}
use Rattle.needs_of_commands.proofs.chains.chain.Given as goal

abbrev pub invariant-loop-next : goal.invariant-loop-next
invariant-loop-next l = Goes l.first l.rows l.code l.place l.fn.innermost l.next l.fn.found l.found

abbrev pub decreases-loop-next : goal.decreases-loop-next
decreases-loop-next l = size l.first l.rows l.next
