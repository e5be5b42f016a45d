use Rattle.std.proofs.Common.{◌≡◌, ◌++◌, flat_map, take}
use Rattle.op_model.specs.Kids.{kids_at}
use Rattle.op_model.proofs.numbering.next.Given as goal

abbrev pub invariant-loop-number : goal.invariant-loop-number
invariant-loop-number l = l.all.items ≡ l.fn.roots ++ flat_map (kids_at l.fn.kids) (take l.number-index l.fn.found)
