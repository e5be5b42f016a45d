use Rattle.plain_removals.proofs.Belonging.{FirstBelong}
use Rattle.plain_removals.proofs.items.items_belong.Given as goal

abbrev pub invariant-loop-i : goal.invariant-loop-i
invariant-loop-i l = FirstBelong l.facts l.heap l.fixed l.rest l.items l.i
