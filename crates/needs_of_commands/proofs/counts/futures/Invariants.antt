use Rattle.std.proofs.Common.{◌≡◌, ◌≤◌, take}
use Rattle.code_needs.specs.Stacks.{futures_in}
use Rattle.needs_of_commands.proofs.counts.futures.Given as goal

abbrev pub invariant-loop-k : goal.invariant-loop-k
invariant-loop-k l = (l.count ≡ futures_in (take l.k l.names)) × (l.count ≤ l.k)
