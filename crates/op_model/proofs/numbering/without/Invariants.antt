use Rattle.std.proofs.Common.{◌≡◌, ◌==◌, not, filter, take}
use Rattle.op_model.proofs.numbering.without.Given as goal

abbrev pub invariant-loop-number : goal.invariant-loop-number
invariant-loop-number l = l.kept.items ≡ filter (λ n. not (n == l.fn.left_out)) (take l.number-index l.fn.numbers)
