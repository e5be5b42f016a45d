use Rattle.std.proofs.Common.{◌≡◌, map, take}
use Rattle.check_words.specs.Seen.{worker_named}
use Rattle.needs_of_actions.proofs.wanted.awaited_members.Given as goal

abbrev pub invariant-loop-m : goal.invariant-loop-m
invariant-loop-m l = l.numbers.items ≡ map (λ m. worker_named l.workers m.name) (take l.m-index l.members)
