use Rattle.std.proofs.Common.{take}
use Rattle.std.specs.List.{Contains}
use Rattle.graphs.specs.inner.Searching.{AreNoted}
use Rattle.graphs.proofs.search.reach.Given as goal

abbrev pub invariant-loop-number : goal.invariant-loop-number
invariant-loop-number l = AreNoted (Contains (take l.number-index l.numbers)) l.level l.initial.away.items l.initial.found.items l.away.items l.found.items
