use Rattle.std.proofs.Common.{◌≡◌, drop, false, get_or}
use Rattle.std.specs.List.{list_all}
use Rattle.worker_ranks.proofs.peel.are_marked.Given as goal

abbrev pub invariant-loop-number : goal.invariant-loop-number
invariant-loop-number l = list_all (λ t. get_or l.marks t false) (drop l.number-index l.numbers) ≡ list_all (λ t. get_or l.marks t false) l.numbers
