use Rattle.std.proofs.Common.{◌≡◌, [], get_or, map, take}
use Rattle.module_loader.proofs.linking.names_at.Given as goal

abbrev pub invariant-loop-number : goal.invariant-loop-number
invariant-loop-number l = l.all.items ≡ map (λ i. get_or l.names i []) (take l.number-index l.numbers)
