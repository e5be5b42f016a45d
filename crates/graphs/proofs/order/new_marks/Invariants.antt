use Rattle.std.proofs.Common.{◌≡◌, replicate}
use Rattle.graphs.specs.declared.order.Mark.TheVariants.{New}
use Rattle.graphs.proofs.order.new_marks.Given as goal

abbrev pub invariant-loop : goal.invariant-loop
invariant-loop l = l.marks.items ≡ replicate l.counter New
