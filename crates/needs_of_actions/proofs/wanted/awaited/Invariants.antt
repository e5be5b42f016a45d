use Rattle.std.proofs.Common.{◌≡◌, map, take}
use Rattle.check_words.specs.Seen.{worker_named}
use Rattle.needs_of_actions.proofs.wanted.awaited.Given as goal

abbrev pub invariant-loop-q : goal.invariant-loop-q
invariant-loop-q l = l.numbers.items ≡ map (worker_named l.workers) (take l.q-index l.names)
