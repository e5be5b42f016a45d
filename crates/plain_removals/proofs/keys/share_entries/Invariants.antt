use Rattle.std.proofs.Common.{◌≡◌, take}
use Rattle.plain_removals.proofs.keys.share_entries.Given as goal

abbrev pub invariant-loop-e : goal.invariant-loop-e
invariant-loop-e l = l.shared.items ≡ take l.e-index l.entries
