use Rattle.std.proofs.Common.{◌≡◌, map, take}
use Rattle.typed_tree.specs.Skeleton.{number_of_member, those_there}
use Rattle.typed_tree.proofs.seeing.names.among_members.Given as goal

abbrev pub invariant-loop-m : goal.invariant-loop-m
invariant-loop-m l = l.numbers.items ≡ those_there (map (number_of_member l.workers) (take l.m-index l.members))
