use Rattle.std.proofs.Common.{◌≡◌, drop, get_or}
use Rattle.std.specs.Prelude.{nat_lt}
use Rattle.std.specs.List.{list_all}
use Rattle.worker_ranks.proofs.rising.are_below.Given as goal

abbrev pub invariant-loop-number : goal.invariant-loop-number
invariant-loop-number l = list_all (λ t. nat_lt (get_or l.ranks t 0) l.rank) (drop l.number-index l.numbers) ≡ list_all (λ t. nat_lt (get_or l.ranks t 0) l.rank) l.numbers
