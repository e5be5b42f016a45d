use Rattle.std.specs.Prelude.{◌≡◌, ◌++◌, map, take}
use Rattle.plain_copies.specs.Copied.{copied_entry}
use Rattle.plain_copies.proofs.copies.push_entries.Given as goal

abbrev pub invariant-loop-entry : goal.invariant-loop-entry
invariant-loop-entry l = l.copies ≡ l.fn.copies ++ map (copied_entry l.fn.first l.fn.numbers) (take l.entry-index l.fn.entries)
