use Rattle.std.specs.Prelude.{All, take}
use Rattle.plain_removals.proofs.Belonging.{EntryBelongs}
use Rattle.plain_removals.proofs.entries.entries_belong.Given as goal

abbrev pub invariant-loop-e : goal.invariant-loop-e
invariant-loop-e l = All (EntryBelongs l.facts l.heap l.fields l.rest l.entries) (take l.e-index l.entries)
