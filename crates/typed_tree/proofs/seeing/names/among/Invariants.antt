use Rattle.std.proofs.Common.{◌≡◌, map, take}
use Rattle.typed_tree.specs.Skeleton.{number_of, those_there}
use Rattle.typed_tree.proofs.seeing.names.among.Given as goal

abbrev pub invariant-loop-q : goal.invariant-loop-q
invariant-loop-q l = l.numbers.items ≡ those_there (map (number_of l.workers) (take l.q-index l.names))
