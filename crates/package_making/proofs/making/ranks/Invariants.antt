use Rattle.std.proofs.Common.{◌≡◌, map, take}
use Rattle.package_making.specs.Making.{rank}
use Rattle.package_making.proofs.making.ranks.Given as goal

abbrev pub invariant-loop-number : goal.invariant-loop-number
invariant-loop-number l = l.ranks.items ≡ map (rank l.order) (take l.number-index l.numbers)
